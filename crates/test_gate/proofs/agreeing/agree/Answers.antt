use Rattle.std.proofs.Common.{arith}
use Rattle.std.proofs.lemmas.Grind.{elements}
use Rattle.test_gate.proofs.agreeing.agree.Goals as goal

pub invariant_of-first : goal.invariant_of-first
invariant_of-first c = grind (arith, elements)

pub invariant_of-second : goal.invariant_of-second
invariant_of-second c = grind (arith, elements)
