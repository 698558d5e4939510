use Rattle.std.proofs.Common.{arith}
use Rattle.std.proofs.lemmas.Grind.{elements}
use Rattle.plan_zones.proofs.rule_place.rule_in.Goals as goal

pub returns-in_err-table : goal.returns-in_err-table
returns-in_err-table c = grind (arith, elements)

pub returns : goal.returns
returns c = grind (arith, elements)
