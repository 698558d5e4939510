use Rattle.std.proofs.Common.{arith}
use Rattle.std.proofs.lemmas.Grind.{elements}
use Rattle.plan_checks.proofs.change_survey.item_at.Goals as goal

pub returns : goal.returns
returns c = grind (arith, elements)
