use Rattle.std.proofs.Common.{arith, sym, ◌∙◌}
use Rattle.std.proofs.lemmas.Grind.{common_steps}
use Rattle.explanation.proofs.FoundClaims.{found_first}
use Rattle.explanation.proofs.finding.with_place.Goals as goal

pub returns-in_default : goal.returns-in_default
returns-in_default c = λ places is. found_first c.args.place places (sym c.in_default.is ∙ is)

pub returns : goal.returns
returns c = grind (arith, common_steps)
