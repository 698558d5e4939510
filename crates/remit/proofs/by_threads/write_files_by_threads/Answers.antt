use Rattle.std.proofs.Common.{◌∙◌, [], arith, refl}
use Rattle.std.proofs.lemmas.Grind.{common_steps}
use Rattle.std.proofs.lemmas.Result.{err_from_is_err_and}
use Rattle.remit_records.specs.RecordWriter.{at}
use Rattle.remit_records.specs.Looked.{looked_up}
use Rattle.remit_records.proofs.Filing.{none-read, refused-before}
use Rattle.remit_records.proofs.Holding.{writes-none}
use Rattle.remit.proofs.by_threads.write_files_by_threads.Goals as goal

pub groups-init : goal.groups-init
groups-init g c = record {
  within = omega arith;
  so_far = ([], none-read c.args.terms.now.plan.names, writes-none (at _ _ c.args.report.now.writer));
  decisions = refl;
}

pub returns-in_err-write_group-clause-writes : goal.returns-in_err-write_group-clause-writes
returns-in_err-write_group-clause-writes g c =
    let p = err_from_is_err_and c.from_residual.result c.from_residual.ensures.1 in
    let so_far = c.groups.invariant in
    let group = c.next_group-group in
    let on = rw (so_far.decisions, group.ensures.start) at c.in_err-write_group.ensures.writes in
    rw (p.1, p.2)
    (refused-before (looked_up c.args.report.now.decisions.now) c.args.terms.now.plan.names c.args.terms.now.files group.result.end c.args.providers (at _ _ c.args.report.now.writer)
    (at _ _ c.write_group.new.report.writer) c.in_err-write_group.field-0.0 group.ensures.most (on.on (at _ _ c.args.report.now.writer) so_far.so_far))

pub groups-preserved : goal.groups-preserved
groups-preserved g c =
    let so_far = c.groups.invariant in
    let group = c.next_group-group in
    let on = rw (so_far.decisions, group.ensures.start) at c.in_ok-write_group.ensures.writes in
    record {
      within = group.ensures.most;
      so_far = on.on (at _ _ c.args.report.now.writer) so_far.so_far;
      decisions = c.in_ok-write_group.ensures.decisions ∙ so_far.decisions;
    }

pub returns-clause-writes : goal.returns-clause-writes
returns-clause-writes c = grind (arith, common_steps)
