use Rattle.std.proofs.lemmas.Grind.{common_steps}
use Rattle.std.proofs.Common.{arith}
use Rattle.feel_tests.proofs.joined.BytesSpellingText.append.Goals as goal

pub returns : goal.returns
returns c = grind (arith, common_steps)
