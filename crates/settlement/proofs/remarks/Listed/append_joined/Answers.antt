use Rattle.std.proofs.Common.{arith}
use Rattle.std.proofs.lemmas.Grind.{common_steps}
use Rattle.settlement.proofs.Remarked.{joined_map}
use Rattle.settlement.proofs.remarks.Listed.append_joined.Goals as goal

pub returns-in-Placed : goal.returns-in-Placed
returns-in-Placed c = grind (arith, common_steps, joined_map)
