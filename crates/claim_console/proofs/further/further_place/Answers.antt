use Rattle.std.proofs.Common.{arith}
use Rattle.std.proofs.lemmas.Grind.{common_steps}
use Rattle.claim_console.proofs.further.further_place.Goals as goal

pub returns-in-Err : goal.returns-in-Err
returns-in-Err c = grind (arith, common_steps)

pub new-requires-text-path : goal.new-requires-text-path
new-requires-text-path c = grind (arith, common_steps)
