use Rattle.std.proofs.Common.{arith}
use Rattle.std.proofs.lemmas.Grind.{common_steps}
use Rattle.plan_rows.proofs.RowLists.{field_missing}
use Rattle.plan_rows.proofs.given.read_field.Goals as goal

pub unreachable-requires : goal.unreachable-requires
unreachable-requires c = field_missing c.get.result _ c.args.place c.requires c.get.ensures.value c.in_default.is

pub returns-in_default-from_utf8-clause-none : goal.returns-in_default-from_utf8-clause-none
returns-in_default-from_utf8-clause-none c = grind (arith, common_steps)

pub returns-in-Err-Bad-clause-none : goal.returns-in-Err-Bad-clause-none
returns-in-Err-Bad-clause-none c = grind (arith, common_steps)

pub returns-in-Ok-read_plain-clause-value : goal.returns-in-Ok-read_plain-clause-value
returns-in-Ok-read_plain-clause-value c = grind (arith, common_steps)
