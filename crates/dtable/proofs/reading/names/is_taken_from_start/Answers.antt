use Rattle.std.proofs.Common.{arith}
use Rattle.std.proofs.lemmas.Grind.{common_steps}
use Rattle.dtable.proofs.reading.names.is_taken_from_start.Goals as goal

pub returns-else-is_family_name : goal.returns-else-is_family_name
returns-else-is_family_name c = grind (arith, common_steps)

pub returns-then-is_family_name : goal.returns-then-is_family_name
returns-then-is_family_name c = grind (arith, common_steps)
