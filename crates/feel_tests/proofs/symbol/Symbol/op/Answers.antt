use Rattle.std.proofs.Common.{◌≡◌, None, refl}
use Rattle.feel_tests.specs.Symbols.{op_of}
use Rattle.feel_tests.specs.declared.symbol.Symbol.{Symbol}
use Rattle.feel_tests.specs.declared.symbol.Symbol.TheVariants.{Less, AtMost, More, AtLeast, OpenRound, CloseRound, OpenSquare, CloseSquare, Dots, Comma, Dash}
use Rattle.feel_tests.proofs.symbol.Symbol.op.Goals as goal

-- the other symbols are not operators
no_operator : (s : Symbol) → ¬ (s ≡ Less) → ¬ (s ≡ AtMost) → ¬ (s ≡ More) → ¬ (s ≡ AtLeast) → None ≡ op_of s
no_operator Less a b c d = absurd (a refl)
no_operator AtMost a b c d = absurd (b refl)
no_operator More a b c d = absurd (c refl)
no_operator AtLeast a b c d = absurd (d refl)
no_operator OpenRound a b c d = refl
no_operator CloseRound a b c d = refl
no_operator OpenSquare a b c d = refl
no_operator CloseSquare a b c d = refl
no_operator Dots a b c d = refl
no_operator Comma a b c d = refl
no_operator Dash a b c d = refl

pub returns-in_default : goal.returns-in_default
returns-in_default c = no_operator c.args.self c.in_default.not-Less c.in_default.not-AtMost c.in_default.not-More c.in_default.not-AtLeast
