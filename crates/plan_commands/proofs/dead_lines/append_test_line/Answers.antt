use Rattle.std.proofs.Common.{arith}
use Rattle.std.proofs.lemmas.Grind.{common_steps}
use Rattle.plan_commands.proofs.dead_lines.append_test_line.Goals as goal

pub get-requires : goal.get-requires
get-requires c = grind (arith, common_steps)
