use Rattle.std.proofs.Common.{arith}
use Rattle.std.proofs.lemmas.Grind.{common_steps}
use Rattle.plan_commands.proofs.change_parts.add_parts.Goals as goal

pub part_none-parts : goal.part_none-parts
part_none-parts c = grind (arith, common_steps)

pub part_some-parts : goal.part_some-parts
part_some-parts c = grind (arith, common_steps)
