use Rattle.std.proofs.Common.{◌≡◌, None, refl, rules}
use Rattle.feel_tests.specs.Grammar.{start_in}
use Rattle.feel_tests.specs.declared.symbol.Symbol.{Symbol}
use Rattle.feel_tests.specs.declared.symbol.Symbol.TheVariants.{Less, AtMost, More, AtLeast, OpenRound, CloseRound, OpenSquare, CloseSquare, Dots, Comma, Dash}
use Rattle.feel_tests.proofs.symbol.Symbol.start_in.Goals as goal

-- the other symbols do not open an interval
no_start : (s : Symbol) → ¬ (s ≡ OpenSquare) → ¬ (s ≡ OpenRound) → ¬ (s ≡ CloseSquare) → None ≡ start_in s
no_start Less a b c = refl
no_start AtMost a b c = refl
no_start More a b c = refl
no_start AtLeast a b c = refl
no_start OpenRound a b c = absurd (b refl)
no_start CloseRound a b c = refl
no_start OpenSquare a b c = absurd (a refl)
no_start CloseSquare a b c = absurd (c refl)
no_start Dots a b c = refl
no_start Comma a b c = refl
no_start Dash a b c = refl

pub returns-in_default : goal.returns-in_default
returns-in_default c = no_start c.args.self c.in_default.not-OpenSquare c.in_default.not-OpenRound c.in_default.not-CloseSquare

pub returns-in-CloseSquare : goal.returns-in-CloseSquare
returns-in-CloseSquare c = search rules
