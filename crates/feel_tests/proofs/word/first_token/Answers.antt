use Rattle.std.proofs.lemmas.Grind.{common_steps}
use Rattle.std.proofs.Common.{◌≡◌, ℕ, List, ◌∷◌, length, ap, ◌∙◌, sym, arith, rules}
use Rattle.std.proofs.lemmas.List.{take_rest}
use Rattle.feel_tests.proofs.FirstWord.{begins_name, begins_number, begins_sign, begins_none}
use Rattle.feel_tests.proofs.SymbolFront.{symbol_within}
use Rattle.feel_tests.proofs.word.first_token.Goals as goal

pub returns-then-len-gt0 : goal.returns-then-len-gt0
returns-then-len-gt0 c =
    let value = c.name_len-len.ensures.value in
    rw (c.split_at.ensures.front, c.split_at.ensures.back, value)
    (begins_name c.args.text.now c.skip_white-bytes.result.now c.skip_white-bytes.ensures (omega arith) (omega arith))

pub returns-then-len-gt0-2 : goal.returns-then-len-gt0-2
returns-then-len-gt0-2 c =
    let value = c.number_len-len.ensures.value in
    rw (c.split_at-then-len-gt0-2.ensures.front, c.split_at-then-len-gt0-2.ensures.back, value)
    (begins_number c.args.text.now c.skip_white-bytes.result.now c.skip_white-bytes.ensures (omega arith) (omega arith))

pub returns-in-Some : goal.returns-in-Some
returns-in-Some c =
    rw (take_rest c.skip_white-bytes.result.now (length c.text.result.now), c.text.ensures)
    (begins_sign c.args.text.now c.skip_white-bytes.result.now c.in-Some.symbol c.skip_white-bytes.ensures (omega arith) (sym c.at_front.ensures ∙ c.in-Some.is))

pub slice_bounds-result-start : goal.slice_bounds-result-start
slice_bounds-result-start c =
    let within = symbol_within c.skip_white-bytes.result.now c.in-Some.symbol (sym c.at_front.ensures ∙ c.in-Some.is) in
    omega (arith, within, ap length c.text.ensures)

pub slice_bounds-result-count : goal.slice_bounds-result-count
slice_bounds-result-count c =
    let within = symbol_within c.skip_white-bytes.result.now c.in-Some.symbol (sym c.at_front.ensures ∙ c.in-Some.is) in
    omega (arith, within, ap length c.text.ensures)

pub returns-in-None : goal.returns-in-None
returns-in-None c =
    let bytes = c.skip_white-bytes.result.now in
    let no_quote : (inside : List ℕ) → ¬ (bytes ≡ 34 ∷ inside) = search rules in
    begins_none c.args.text.now bytes c.skip_white-bytes.ensures no_quote (omega arith) (omega arith) (sym c.at_front.ensures ∙ c.in-None.is)

pub returns-in-34 : goal.returns-in-34
returns-in-34 c = grind (arith, common_steps)

pub bounds-bytes-0 : goal.bounds-bytes-0
bounds-bytes-0 c = grind (arith, common_steps)

pub slice_bounds-inside-count : goal.slice_bounds-inside-count
slice_bounds-inside-count c = grind (arith, common_steps)

pub slice_bounds-inside-start : goal.slice_bounds-inside-start
slice_bounds-inside-start c = grind (arith, common_steps)
