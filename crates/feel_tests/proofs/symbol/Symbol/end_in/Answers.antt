use Rattle.std.proofs.Common.{◌≡◌, None, refl}
use Rattle.feel_tests.specs.Grammar.{end_in}
use Rattle.feel_tests.specs.declared.symbol.Symbol.{Symbol}
use Rattle.feel_tests.specs.declared.symbol.Symbol.TheVariants.{Less, AtMost, More, AtLeast, OpenRound, CloseRound, OpenSquare, CloseSquare, Dots, Comma, Dash}
use Rattle.feel_tests.proofs.symbol.Symbol.end_in.Goals as goal

-- the other symbols do not close an interval
no_end : (s : Symbol) → ¬ (s ≡ CloseSquare) → ¬ (s ≡ CloseRound) → ¬ (s ≡ OpenSquare) → None ≡ end_in s
no_end Less a b c = refl
no_end AtMost a b c = refl
no_end More a b c = refl
no_end AtLeast a b c = refl
no_end OpenRound a b c = refl
no_end CloseRound a b c = absurd (b refl)
no_end OpenSquare a b c = absurd (c refl)
no_end CloseSquare a b c = absurd (a refl)
no_end Dots a b c = refl
no_end Comma a b c = refl
no_end Dash a b c = refl

pub returns-in_default : goal.returns-in_default
returns-in_default c = no_end c.args.self c.in_default.not-CloseSquare c.in_default.not-CloseRound c.in_default.not-OpenSquare
