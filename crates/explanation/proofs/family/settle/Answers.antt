use Rattle.std.proofs.Common.{rules, arith}
use Rattle.std.proofs.lemmas.Grind.{common_steps}
use Rattle.explanation.proofs.family.settle.Goals as goal

pub returns-clause-before : goal.returns-clause-before
returns-clause-before c = search rules

pub new-requires : goal.new-requires
new-requires c = grind (arith, common_steps)

pub unreachable-requires : goal.unreachable-requires
unreachable-requires c = grind (arith, common_steps)
