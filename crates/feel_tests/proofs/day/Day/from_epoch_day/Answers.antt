use Rattle.std.proofs.Common.{arith}
use Rattle.std.proofs.lemmas.Grind.{common_steps}
use Rattle.feel_tests.proofs.day.Day.from_epoch_day.Goals as goal

pub returns-then-number-le-LAST_DAY : goal.returns-then-number-le-LAST_DAY
returns-then-number-le-LAST_DAY c = grind (arith, common_steps)

pub returns-else-number-ge-FIRST_DAY : goal.returns-else-number-ge-FIRST_DAY
returns-else-number-ge-FIRST_DAY c = grind (arith, common_steps)
