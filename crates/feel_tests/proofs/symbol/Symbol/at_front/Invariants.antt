use Rattle.std.proofs.Common.{◌≡◌, drop}
use Rattle.std.specs.Prelude.{find, nat_eq}
use Rattle.std.specs.List.{starts_with}
use Rattle.feel_tests.specs.Words.{symbol_text}
use Rattle.feel_tests.specs.Symbols.{symbols}
use Rattle.feel_tests.proofs.symbol.Symbol.at_front.Given as goal

-- the first symbol of those left is the first of all
abbrev pub invariant-loop-symbol : goal.invariant-loop-symbol
invariant-loop-symbol l =
    find (λ symbol. starts_with nat_eq l.bytes (symbol_text symbol)) (drop l.symbol-index symbols)
    ≡ find (λ symbol. starts_with nat_eq l.bytes (symbol_text symbol)) symbols
