use Rattle.std.proofs.Common.{arith}
use Rattle.std.proofs.lemmas.Grind.{common_steps}
use Rattle.claim_console.proofs.strict.refuse_unused.Goals as goal

pub returns : goal.returns
returns c = grind (arith, common_steps)

pub returns-in_default-unknown_keys : goal.returns-in_default-unknown_keys
returns-in_default-unknown_keys c = grind (arith, common_steps)
