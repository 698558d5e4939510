use Rattle.std.proofs.Common.{arith}
use Rattle.std.proofs.lemmas.Grind.{common_steps}
use Rattle.plan_rows.proofs.lines.append_reason.Goals as goal

pub returns-in_default : goal.returns-in_default
returns-in_default c = grind (arith, common_steps)

pub returns-in_ok-append_place-2 : goal.returns-in_ok-append_place-2
returns-in_ok-append_place-2 c = grind (arith, common_steps)
