use Rattle.std.proofs.Common.{arith}
use Rattle.std.proofs.lemmas.Grind.{common_steps}
use Rattle.plan_rows.proofs.filing.family_at.Goals as goal

pub returns-in_ok-text_at : goal.returns-in_ok-text_at
returns-in_ok-text_at c = grind (arith, common_steps)
