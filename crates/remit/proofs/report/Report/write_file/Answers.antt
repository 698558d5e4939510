use Rattle.std.proofs.Common.{[], ◌-◌, get_or, arith}
use Rattle.std.proofs.lemmas.Grind.{common_steps}
use Rattle.remit_records.specs.RecordWriter.{at}
use Rattle.remit_records.specs.Looked.{looked_up}
use Rattle.remit.proofs.Cutting.{whole-written}
use Rattle.remit.proofs.report.Report.write_file.Goals as goal

pub returns-clause-writes : goal.returns-clause-writes
returns-clause-writes g c =
    whole-written (looked_up c.args.self.now.decisions.now) c.args.provider c.args.terms.now.plan.names (get_or c.args.terms.now.files (c.args.provider - 1) [])
    (at _ _ c.args.self.now.writer) (at _ _ c.write_section.new.self.writer) c.write_section.result (rw c.whole_file.ensures at c.write_section.ensures.writes)

pub write_section-requires-clause-most : goal.write_section-requires-clause-most
write_section-requires-clause-most c = grind (arith, common_steps)
