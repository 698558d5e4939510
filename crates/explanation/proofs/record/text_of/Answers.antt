use Rattle.std.proofs.Common.{[]}
use Rattle.remit_records.specs.Report.{report_style}
use Rattle.explanation.proofs.Records.{text-ended}
use Rattle.explanation.proofs.record.text_of.Goals as goal

pub returns-in-Ok : goal.returns-in-Ok
returns-in-Ok c = λ fields has. text-ended _ c.in-Ok.text.items fields c.in-Ok.ensures.ok (c.in_ok-end_record.ensures report_style [] fields has)
