use Rattle.std.proofs.Common.{arith}
use Rattle.std.proofs.lemmas.Grind.{common_steps}
use Rattle.std.proofs.lemmas.Result.{IfOk-weaker}
use Rattle.plan_rows.proofs.RowValues.{met_fault}
use Rattle.plan_rows.proofs.lines.is_met.Goals as goal

pub returns-in-Expected : goal.returns-in-Expected
returns-in-Expected c = rw c.in-Expected.is c.meets_answer.ensures

pub returns-in-Settled : goal.returns-in-Settled
returns-in-Settled c = rw c.in-Settled.is (IfOk-weaker c.meets_part.result _ _ (λ met same. same c.args.column.name.now) c.meets_part.ensures)

pub returns-in-Fault : goal.returns-in-Fault
returns-in-Fault c = met_fault c.is_fault.result c.args.finding.now c.args.column c.args.field.now c.in-Fault.is c.is_fault.ensures

pub returns-in-Given : goal.returns-in-Given
returns-in-Given c = grind (arith, common_steps)

pub returns-in-Carried : goal.returns-in-Carried
returns-in-Carried c = grind (arith, common_steps)
