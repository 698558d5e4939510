use Rattle.std.proofs.Common.{sym}
use Rattle.intake_csv.proofs.csv_record.CsvRecord.text.Goals as goal

pub returns-in-Err-clause-none : goal.returns-in-Err-clause-none
returns-in-Err-clause-none c =
    let there = sym (rw c.in_ok-field.was at c.get.ensures.value) in
    (c.in_ok-field.field.now, rw (← c.self.view_is) there, c.in-Err.ensures.cases.0)
