use Rattle.std.proofs.Common.{arith}
use Rattle.std.proofs.lemmas.Grind.{common_steps, elements}
use Rattle.test_gate.proofs.agreeing.note.Goals as goal

pub invariant_of-result : goal.invariant_of-result
invariant_of-result g c = grind (arith, elements)

pub leave-pass-requires-clause-grown : goal.leave-pass-requires-clause-grown
leave-pass-requires-clause-grown g c = grind (arith, common_steps)
