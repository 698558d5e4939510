-- The rules that match, extended by one rule.
use Rattle.std.proofs.Common.{◌≡◌, ℕ, zero, suc, ◌+◌, ◌<◌, Bool, true, false, cond, List, [], ◌∷◌, ◌++◌, length, get_or, filter, Some, slice_get, ap, sym, ◌∙◌, add-one, append-nil, arith}
use Rattle.std.specs.List.{range_with_len}
use Rattle.std.specs.Option.{option_map_or}
use Rattle.std.proofs.lemmas.List.Elements.{filter-append}
use Rattle.tables.specs.declared.inputs.Slot.{Slot}
use Rattle.tables.specs.declared.environment.Answer.{Answer}
use Rattle.tables.specs.declared.table.Rule.{Rule}
use Rattle.tables.specs.declared.table.Table.{Table}
use Rattle.tables.specs.Matching.{cells_hold, rule_matches}

range_more : (a n : ℕ) → range_with_len a (suc n) ≡ range_with_len a n ++ (a + n) ∷ []
range_more a zero = let here : a ≡ a + 0 = omega arith in ap (λ k. k ∷ []) here
range_more a (suc n) =
    let there : (a + 1) + n ≡ a + suc n = omega arith in
    ap (λ rest. a ∷ rest) (range_more (a + 1) n ∙ ap (λ k. range_with_len (a + 1) n ++ k ∷ []) there)

filter_numbers : (p : ℕ → Bool) (n : ℕ) → filter p (range_with_len 0 (n + 1)) ≡ filter p (range_with_len 0 n) ++ cond (p n) (n ∷ []) []
filter_numbers p n =
    let zero_more : 0 + n ≡ n = omega arith in
    ap (λ k. filter p (range_with_len 0 k)) (add-one n) ∙ ap (filter p) (range_more 0 n ∙ ap (λ k. range_with_len 0 n ++ k ∷ []) zero_more) ∙ filter-append p (range_with_len 0 n) (n ∷ [])

present_at : {X : Type 0} (xs : List X) (n : ℕ) (x : X) → n < length xs → x ≡ get_or xs n x → slice_get xs n ≡ Some x
present_at [] n x below present = absurd (omega (arith, below))
present_at (y ∷ ys) zero x below present = ap Some (sym present)
present_at (y ∷ ys) (suc n) x below present = present_at ys n x (omega (arith, below)) present

rule_at : (given : List Slot) (earlier : List (List Answer)) (t : Table) (n : ℕ) (r : Rule) → n < length t.rules → r ≡ get_or t.rules n r
    → rule_matches given earlier t n ≡ cells_hold given earlier t.inputs r.cells
rule_at given earlier t n r below present = ap (λ found. option_map_or (λ r. cells_hold given earlier t.inputs r.cells) found false) (present_at t.rules n r below present)

pub match_more : (given : List Slot) (earlier : List (List Answer)) (t : Table) (n : ℕ) (r : Rule) → n < length t.rules → r ≡ get_or t.rules n r → cells_hold given earlier t.inputs r.cells ≡ true
    → filter (rule_matches given earlier t) (range_with_len 0 (n + 1)) ≡ filter (rule_matches given earlier t) (range_with_len 0 n) ++ n ∷ []
match_more given earlier t n r below present holds =
    filter_numbers (rule_matches given earlier t) n ∙ ap (λ b. filter (rule_matches given earlier t) (range_with_len 0 n) ++ cond b (n ∷ []) []) (rule_at given earlier t n r below present ∙ holds)

pub no_match_more : (given : List Slot) (earlier : List (List Answer)) (t : Table) (n : ℕ) (r : Rule) → n < length t.rules → r ≡ get_or t.rules n r → cells_hold given earlier t.inputs r.cells ≡ false
    → filter (rule_matches given earlier t) (range_with_len 0 (n + 1)) ≡ filter (rule_matches given earlier t) (range_with_len 0 n)
no_match_more given earlier t n r below present holds =
    filter_numbers (rule_matches given earlier t) n ∙ ap (λ b. filter (rule_matches given earlier t) (range_with_len 0 n) ++ cond b (n ∷ []) []) (rule_at given earlier t n r below present ∙ holds) ∙ append-nil (filter (rule_matches given earlier t) (range_with_len 0 n))
