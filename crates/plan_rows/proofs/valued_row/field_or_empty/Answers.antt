use Rattle.plan_rows.proofs.RowRecords.{field_there, no_field}
use Rattle.plan_rows.proofs.valued_row.field_or_empty.Goals as goal

pub returns-in-Some : goal.returns-in-Some
returns-in-Some c = field_there _ _ c.get.result _ c.get.ensures.value c.in-Some.is

pub returns-in-None : goal.returns-in-None
returns-in-None c = no_field _ _ c.get.result c.get.ensures.value c.in-None.is
