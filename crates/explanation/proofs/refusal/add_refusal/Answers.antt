use Rattle.std.proofs.Common.{arith}
use Rattle.std.proofs.lemmas.Grind.{common_steps}
use Rattle.explanation.proofs.refusal.add_refusal.Goals as goal

pub returns-then-is_field_count : goal.returns-then-is_field_count
returns-then-is_field_count c = grind (arith, common_steps)

pub returns-else-is_field_count : goal.returns-else-is_field_count
returns-else-is_field_count c = grind (arith, common_steps)
