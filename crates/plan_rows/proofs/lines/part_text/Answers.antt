use Rattle.std.proofs.Common.{arith}
use Rattle.std.proofs.lemmas.Grind.{common_steps}
use Rattle.plan_rows.proofs.lines.part_text.Goals as goal

pub returns-in-Status : goal.returns-in-Status
returns-in-Status c = grind (arith, common_steps)

pub returns-in_ok-reason-in-Reason : goal.returns-in_ok-reason-in-Reason
returns-in_ok-reason-in-Reason c = grind (arith, common_steps)

pub returns-in_ok-write_text-in-Amount : goal.returns-in_ok-write_text-in-Amount
returns-in_ok-write_text-in-Amount c = grind (arith, common_steps)
