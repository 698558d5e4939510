use Rattle.std.proofs.lemmas.Grind.{common_steps}
use Rattle.std.proofs.Common.{ℕ, List, sym, ap, ◌∙◌, arith}
use Rattle.std.specs.Prelude.{nat_eq}
use Rattle.std.specs.List.{starts_with}
use Rattle.feel_tests.specs.Words.{symbol_text}
use Rattle.feel_tests.specs.Symbols.{symbols}
use Rattle.feel_tests.proofs.SymbolFront.{find_missed}
use Rattle.feel_tests.proofs.symbol.Symbol.at_front.Goals as goal

pub loop-symbol-preserved : goal.loop-symbol-preserved
loop-symbol-preserved c =
    let missed = sym (c.if-starts_with.ensures.value ∙ ap (λ (t : List ℕ). starts_with nat_eq c.args.bytes.now t) c.text.ensures) in
    sym (find_missed (λ s. starts_with nat_eq c.args.bytes.now (symbol_text s)) symbols c.loop-symbol.symbol-index _ c.loop-symbol-test.true missed) ∙ c.loop-symbol.invariant

pub returns : goal.returns
returns c = grind (arith, common_steps)

pub returns-then-starts_with : goal.returns-then-starts_with
returns-then-starts_with c = grind (arith, common_steps)
