use Rattle.std.proofs.Common.{arith}
use Rattle.std.proofs.lemmas.Grind.{common_steps, elements}
use Rattle.explanation.proofs.refusal.add_field.Goals as goal

pub returns-in-TooLong : goal.returns-in-TooLong
returns-in-TooLong c = grind (arith, common_steps)

pub returns-in_default : goal.returns-in_default
returns-in_default c = grind (arith, elements)

pub returns-in-Utf8 : goal.returns-in-Utf8
returns-in-Utf8 c = grind (arith, common_steps)
