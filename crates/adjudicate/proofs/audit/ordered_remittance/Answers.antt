use Rattle.std.proofs.Common.{◌≡◌, [], rules}
use Rattle.fixpoint.specs.Out.{writer_of}
use Rattle.adjudicate.proofs.Audits.{written_remittance}
use Rattle.adjudicate.proofs.audit.ordered_remittance.Goals as goal

pub returns-in-Ok : goal.returns-in-Ok
returns-in-Ok c =
    let parts = c.args.terms.now in
    let old = writer_of c.new-out.result in
    let none : old.items ≡ [] = search rules in
    rw c.into_inner.ensures
    (written_remittance parts.order parts c.in_ok-batch.batch.journal old.items (writer_of c.write_report.new.out).items none c.in_ok-batch.ensures.finished
    (c.in_ok-batch.ensures.ordered c.requires) c.in-Ok.ensures.written)
