use Rattle.std.proofs.Common.{arith}
use Rattle.std.proofs.lemmas.Grind.{common_steps}
use Rattle.plan_rows.proofs.RowValues.{answered_by}
use Rattle.plan_rows.proofs.lines.is_answered.Goals as goal

pub returns-in-Some : goal.returns-in-Some
returns-in-Some c = answered_by c.has_answer.result c.args.tables.now c.args.name.now c.args.field.now c.in-Some.answer.now c.in-Some.ensures c.has_answer.ensures

pub returns-in-None : goal.returns-in-None
returns-in-None c = grind (arith, common_steps)
