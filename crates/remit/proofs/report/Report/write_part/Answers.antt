use Rattle.std.proofs.Common.{rules, ◌-◌, [], get_or}
use Rattle.remit_records.specs.RecordWriter.{at}
use Rattle.remit_records.specs.Looked.{looked_up}
use Rattle.remit.proofs.Parting.{part-written}
use Rattle.remit.proofs.report.Report.write_part.Goals as goal

pub returns-in-Ok-clause-writes : goal.returns-in-Ok-clause-writes
returns-in-Ok-clause-writes g c =
    part-written (looked_up c.args.self.now.decisions.now) c.args.section c.args.terms.now.plan.names (get_or c.args.terms.now.files (c.args.section.provider - 1) [])
    c.in-Ok.text.items (at _ _ c.args.self.now.writer) (at _ _ c.write_text.new.self) c.write_text.result (rw c.in-Ok.is at c.requires.part)
    (rw c.as_slice.ensures.value at c.write_text.ensures)

pub returns-in-Err-clause-writes : goal.returns-in-Err-clause-writes
returns-in-Err-clause-writes g c = search rules
