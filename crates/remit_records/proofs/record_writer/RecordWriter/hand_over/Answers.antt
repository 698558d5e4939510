use Rattle.std.proofs.Common.{[], ◌++◌, ap₂, append-nil}
use Rattle.std.proofs.lemmas.Result.{err_from_is_err_and}
use Rattle.remit_records.specs.RecordWriter.{at, rendered_of}
use Rattle.remit_records.proofs.Holding.{in-any-case, text-put, writes-then}
use Rattle.remit_records.proofs.record_writer.RecordWriter.hand_over.Goals as goal

pub returns-in_err-put_rendered-clause-writes : goal.returns-in_err-put_rendered-clause-writes
returns-in_err-put_rendered-clause-writes g c =
    let p = err_from_is_err_and c.from_residual.result c.from_residual.ensures.1 in
    rw (p.1, p.2) c.in_err-put_rendered.ensures.writes

pub returns-clause-writes : goal.returns-clause-writes
returns-clause-writes g c =
    let old = c.put_rendered.new.self in
    writes-then (at _ _ c.args.self.now) (at _ _ old) (at _ _ _) [] [] tt c.progress.result c.in_ok-put_rendered.ensures.writes
    (text-put _ _ _ _ old _ [] [] c.progress.result c.hand_over.ensures.puts c.hand_over.ensures.stays (append-nil (rendered_of old))
    (λ ready. record { setup = ready.setup; fields = ready.fields; clean = ready.clean }) c.progress.ensures.whole c.progress.ensures.cut)

pub returns-clause-all : goal.returns-clause-all
returns-clause-all g c =
    in-any-case c.progress.result _ (ap₂ (λ unsent rendered. unsent ++ rendered) c.hand_over.ensures.all c.in_ok-put_rendered.ensures.all)
