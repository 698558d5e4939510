use Rattle.std.proofs.Common.{◌<◌, refl, ◌∙◌, subst, arith}
use Rattle.std.proofs.lemmas.Grind.{common_steps}
use Rattle.std.proofs.lemmas.Result.{err_from_is_err_and}
use Rattle.remit_records.specs.RecordWriter.{at}
use Rattle.remit_records.specs.Looked.{looked_up}
use Rattle.remit_records.proofs.Filing.{files-next, files-none, files-refused}
use Rattle.remit.proofs.report.InTurnRendering.write_files.Goals as goal

pub loop-place-init : goal.loop-place-init
loop-place-init g c = record { so_far = files-none (looked_up c.args.report.now.decisions.now) c.args.terms.now.plan.names c.args.terms.now.files _; decisions = refl }

pub returns-in_err-write_file-clause-writes : goal.returns-in_err-write_file-clause-writes
returns-in_err-write_file-clause-writes g c =
    let p = err_from_is_err_and c.from_residual.result c.from_residual.ensures.1 in
    let decided = looked_up c.args.report.now.decisions.now in
    let so_far = c.loop-place.invariant in
    rw (p.1, p.2)
    (files-refused decided c.args.terms.now.plan.names c.args.terms.now.files c.loop-place.place _ (at _ _ c.loop-place.report.writer) (at _ _ c.write_file.new.self.writer) c.in_err-write_file.field-0.0 (subst (λ n. c.loop-place.place < n) c.requires.all c.loop-place-test.true) so_far.so_far
    (rw so_far.decisions at c.in_err-write_file.ensures.writes))

pub loop-place-preserved : goal.loop-place-preserved
loop-place-preserved g c =
    let decided = looked_up c.args.report.now.decisions.now in
    let so_far = c.loop-place.invariant in
    record {
      so_far =
          files-next decided c.args.terms.now.plan.names c.args.terms.now.files c.loop-place.place _ (at _ _ c.loop-place.report.writer) (at _ _ c.write_file.new.self.writer) (subst (λ n. c.loop-place.place < n) c.requires.all c.loop-place-test.true) so_far.so_far
          (rw so_far.decisions at c.in_ok-write_file.ensures.writes);
      decisions = c.in_ok-write_file.ensures.decisions ∙ so_far.decisions;
    }

pub returns-clause-writes : goal.returns-clause-writes
returns-clause-writes g c = grind (arith, common_steps)
