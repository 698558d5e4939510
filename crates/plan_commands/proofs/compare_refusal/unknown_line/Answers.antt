use Rattle.std.proofs.Common.{arith}
use Rattle.std.proofs.lemmas.Grind.{common_steps, elements}
use Rattle.plan_commands.proofs.compare_refusal.unknown_line.Goals as goal

pub push_printable-requires-text-words : goal.push_printable-requires-text-words
push_printable-requires-text-words c = grind (arith, elements)

pub split_once-requires : goal.split_once-requires
split_once-requires c = grind (arith, common_steps)
