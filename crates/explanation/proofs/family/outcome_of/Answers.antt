use Rattle.std.proofs.Common.{arith}
use Rattle.std.proofs.lemmas.Grind.{common_steps}
use Rattle.explanation.proofs.family.outcome_of.Goals as goal

pub unreachable-requires : goal.unreachable-requires
unreachable-requires c = grind (arith, common_steps)
