use Rattle.std.proofs.Common.{arith}
use Rattle.std.proofs.lemmas.Grind.{elements}
use Rattle.settlement.proofs.remarks.Listed.get.Goals as goal

pub returns-in_ok-place-in-Placed : goal.returns-in_ok-place-in-Placed
returns-in_ok-place-in-Placed c = grind (arith, elements)

pub returns-in_ok-text-in-Own : goal.returns-in_ok-text-in-Own
returns-in_ok-text-in-Own c = grind (arith, elements)

pub returns-in_err-place-in-Placed : goal.returns-in_err-place-in-Placed
returns-in_err-place-in-Placed c = grind (arith, elements)

pub returns-in_err-text-in-Own : goal.returns-in_err-text-in-Own
returns-in_err-text-in-Own c = grind (arith, elements)
