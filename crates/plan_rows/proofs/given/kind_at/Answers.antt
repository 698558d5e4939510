use Rattle.std.proofs.Common.{arith}
use Rattle.std.proofs.lemmas.Grind.{elements}
use Rattle.plan_rows.proofs.given.kind_at.Goals as goal

pub returns : goal.returns
returns c = grind (arith, elements)

pub unreachable-requires : goal.unreachable-requires
unreachable-requires c = grind (arith, elements)
