use Rattle.std.proofs.Common.{[], ◌-◌, get_or, arith}
use Rattle.std.proofs.lemmas.Grind.{common_steps}
use Rattle.remit_records.specs.RecordWriter.{at}
use Rattle.remit_records.specs.Looked.{looked_up}
use Rattle.remit.proofs.Cutting.{whole-written}
use Rattle.remit.proofs.by_threads.write_first_file.Goals as goal

pub returns-clause-writes : goal.returns-clause-writes
returns-clause-writes g c =
    let provider = c.args.group.end in
    whole-written (looked_up c.args.report.now.decisions.now) provider c.args.terms.now.plan.names (get_or c.args.terms.now.files (provider - 1) [])
    (at _ _ c.args.report.now.writer) (at _ _ c.write_front_by_threads.new.report.writer) c.write_front_by_threads.result
    (rw c.whole_file.ensures at c.write_front_by_threads.ensures.writes)

pub write_front_by_threads-requires-clause-most : goal.write_front_by_threads-requires-clause-most
write_front_by_threads-requires-clause-most c = grind (arith, common_steps)

pub returns-clause-decisions : goal.returns-clause-decisions
returns-clause-decisions c = grind (arith, common_steps)

pub write_front_by_threads-requires-clause-start : goal.write_front_by_threads-requires-clause-start
write_front_by_threads-requires-clause-start c = grind (arith, common_steps)

pub returns-then-claims-lt-CUT_CLAIMS-clause-decisions : goal.returns-then-claims-lt-CUT_CLAIMS-clause-decisions
returns-then-claims-lt-CUT_CLAIMS-clause-decisions c = grind (arith, common_steps)

pub returns-then-claims-lt-CUT_CLAIMS-clause-writes : goal.returns-then-claims-lt-CUT_CLAIMS-clause-writes
returns-then-claims-lt-CUT_CLAIMS-clause-writes c = grind (arith, common_steps)

pub write_front_by_threads-requires-clause-least : goal.write_front_by_threads-requires-clause-least
write_front_by_threads-requires-clause-least c = grind (arith, common_steps)
