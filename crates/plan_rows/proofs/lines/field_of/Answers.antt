use Rattle.plan_rows.proofs.RowLists.{field_missing}
use Rattle.plan_rows.proofs.lines.field_of.Goals as goal

pub unreachable-requires : goal.unreachable-requires
unreachable-requires c = field_missing c.get.result _ c.args.place c.requires c.get.ensures.value c.in-None.is
