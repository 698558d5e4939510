use Rattle.std.proofs.Common.{arith}
use Rattle.std.proofs.lemmas.Grind.{common_steps}
use Rattle.explanation.proofs.shown_field.push_escape.Goals as goal

pub hex_digit-requires-2 : goal.hex_digit-requires-2
hex_digit-requires-2 c = grind (arith, common_steps)

pub returns : goal.returns
returns c = grind (arith, common_steps)

pub hex_digit-requires : goal.hex_digit-requires
hex_digit-requires c = grind (arith, common_steps)
