use Rattle.plan_rows.proofs.Sheets.{record_written}
use Rattle.plan_rows.proofs.sheet.write_line.Goals as goal

pub returns : goal.returns
returns c = λ text has.
    let done = c.in-Ok.ensures in
    rw (← c.line.view_is) (record_written _ _ _ text done.bytes done.ended done.clean done.setup has)
