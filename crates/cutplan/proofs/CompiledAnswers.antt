-- Precomputed answers are those of the table, whatever its number.
use Rattle.std.proofs.Common.{◌≡◌, ℕ, zero, suc, ◌+◌, Bool, true, false, List, [], ◌∷◌, length, map, Option, Some, None, get_or, slice_get, Ok, Err, refl, ap, sym, ◌∙◌, arith}
use Rattle.std.specs.Prelude.{ℤ, ◌==◌, nat_le, nat_lt, ◌+ℤ◌, is_some}
use Rattle.std.specs.List.{list_all, range_with_len, reduce}
use Rattle.std.specs.Int.{int_min, int_max}
use Rattle.std.specs.Int.RustNames.{unsigned_abs}
use Rattle.std.proofs.lemmas.Bool.{eqb-true}
use Rattle.std.proofs.lemmas.Option.{none-some, same_Some}
use Rattle.fixpoint.specs.Number.{greatest_units}
use Rattle.tables.specs.declared.environment.Answer.{Answer}
use Rattle.tables.specs.declared.hit.Hit.{Hit}
use Rattle.tables.specs.declared.hit.Hit.TheVariants as hits
use Rattle.tables.specs.declared.table.Table.{Table}
use Rattle.tables.specs.HitPolicy.{TableValue, no_match_value, unique, any, agree, of_rule, aggregate_value, number_answer, numbers_of, match_count, count_units, by_hit}
use Rattle.tables.specs.Priority.{highest_rule}
use Rattle.cutplan.specs.declared.compiled_answers.CompiledAnswers.{CompiledAnswers}
use Rattle.cutplan.specs.CompiledAnswers.{answers_in, answers_of_rules, compiled_answers}
use Rattle.cutplan.proofs.ByMasks.{found_at}

-- two values have the same answers, or faults that differ at most in the table's number
abbrev AreAlike : TableValue → TableValue → Type 0
AreAlike one other = answers_in one ≡ answers_in other

unmatched_alike : (n m : ℕ) (t : Table) (all : Bool) → list_all (λ o. is_some o.fallback) t.outputs ≡ all → AreAlike (no_match_value n t) (no_match_value m t)
unmatched_alike n m t true is = rw is refl
unmatched_alike n m t false is = rw is refl

number_alike : (n m : ℕ) (units : ℤ) (fits : Bool) → nat_le (unsigned_abs units) greatest_units ≡ fits → AreAlike (number_answer n units) (number_answer m units)
number_alike n m units true is = rw is refl
number_alike n m units false is = rw is refl

unique_alike : (n m : ℕ) (t : Table) (rules : List ℕ) → AreAlike (unique n t rules) (unique m t rules)
unique_alike n m t [] = unmatched_alike n m t (list_all (λ o. is_some o.fallback) t.outputs) refl
unique_alike n m t (rule ∷ []) = refl
unique_alike n m t (rule ∷ other ∷ others) = refl

any_by : (n m : ℕ) (t : Table) (rule : ℕ) (others : List ℕ) (all : Bool) → list_all (agree t rule) others ≡ all → AreAlike (any n t (rule ∷ others)) (any m t (rule ∷ others))
any_by n m t rule others true is = rw is refl
any_by n m t rule others false is = rw is refl

any_alike : (n m : ℕ) (t : Table) (rules : List ℕ) → AreAlike (any n t rules) (any m t rules)
any_alike n m t [] = unmatched_alike n m t (list_all (λ o. is_some o.fallback) t.outputs) refl
any_alike n m t (rule ∷ others) = any_by n m t rule others (list_all (agree t rule) others) refl

rule_alike : (n m : ℕ) (t : Table) (found : Option ℕ) → AreAlike (of_rule n t found) (of_rule m t found)
rule_alike n m t None = unmatched_alike n m t (list_all (λ o. is_some o.fallback) t.outputs) refl
rule_alike n m t (Some rule) = refl

aggregated_alike : (n m : ℕ) (t : Table) (found : Option ℤ) → AreAlike (aggregate_value n t found) (aggregate_value m t found)
aggregated_alike n m t None = unmatched_alike n m t (list_all (λ o. is_some o.fallback) t.outputs) refl
aggregated_alike n m t (Some units) = number_alike n m units (nat_le (unsigned_abs units) greatest_units) refl

counted_alike : (n m : ℕ) (t : Table) (rules : List ℕ) → AreAlike (match_count n t rules) (match_count m t rules)
counted_alike n m t [] = unmatched_alike n m t (list_all (λ o. is_some o.fallback) t.outputs) refl
counted_alike n m t (rule ∷ others) = let units = count_units (length (rule ∷ others)) in number_alike n m units (nat_le (unsigned_abs units) greatest_units) refl

-- only faults contain the number of a table
hit_alike : (hit : Hit) (n m : ℕ) (t : Table) (rules : List ℕ) → AreAlike (by_hit hit n t rules) (by_hit hit m t rules)
hit_alike hits.U n m t rules = unique_alike n m t rules
hit_alike hits.A n m t rules = any_alike n m t rules
hit_alike hits.P n m t rules = rule_alike n m t (highest_rule t rules)
hit_alike hits.F n m t rules = rule_alike n m t (slice_get rules 0)
hit_alike hits.O n m t rules = refl
hit_alike hits.R n m t rules = refl
hit_alike hits.C n m t rules = refl
hit_alike hits.Sum n m t rules = aggregated_alike n m t (reduce ◌+ℤ◌ (numbers_of t rules))
hit_alike hits.Min n m t rules = aggregated_alike n m t (reduce int_min (numbers_of t rules))
hit_alike hits.Max n m t rules = aggregated_alike n m t (reduce int_max (numbers_of t rules))
hit_alike hits.Count n m t rules = counted_alike n m t rules

answers_are : (outcome : TableValue) (answers : List Answer) → answers_in outcome ≡ Some answers → outcome ≡ Ok answers
answers_are (Ok made) answers is = ap (λ a. Ok a) (same_Some made answers is)
answers_are (Err fault) answers is = absurd (none-some answers is)

-- the precomputed answers for some rules are the table's answers for any table number
pub as_answered : (t : Table) (rules : List ℕ) (answers : List Answer) → answers_of_rules t rules ≡ Some answers → (number : ℕ) → by_hit t.hit number t rules ≡ Ok answers
as_answered t rules answers is number = answers_are (by_hit t.hit number t rules) answers (hit_alike t.hit number 1 t rules ∙ is)

pub mapped_number : {X : Type 0} (f : ℕ → X) (from n i : ℕ) (x : X) → slice_get (map f (range_with_len from n)) i ≡ Some x → f (from + i) ≡ x
mapped_number f from zero i x at = absurd (none-some x at)
mapped_number f from (suc n) zero x at = let here : from + 0 ≡ from = omega arith in ap f here ∙ same_Some (f from) x at
mapped_number f from (suc n) (suc i) x at =
    let there : from + suc i ≡ (from + 1) + i = omega arith in
    ap f there ∙ mapped_number f (from + 1) n i x at

-- the precomputed answers of a single rule
alone_answered : (t : Table) (kept : CompiledAnswers) (rule : ℕ) (found : Option (List Answer)) → kept ≡ compiled_answers t → slice_get kept.alone rule ≡ Some found → answers_of_rules t (rule ∷ []) ≡ found
alone_answered t kept rule found is at =
    let here : rule ≡ 0 + rule = omega arith in
    ap (λ r. answers_of_rules t (r ∷ [])) here
    ∙ mapped_number (λ r. answers_of_rules t (r ∷ [])) 0 (length t.rules) rule found (ap (λ (k : CompiledAnswers). slice_get k.alone rule) (sym is) ∙ at)

is_none : (rules : List ℕ) → (length rules == 0) ≡ true → rules ≡ []
is_none [] none = refl
is_none (rule ∷ rules) none = let zero_long = eqb-true (length (rule ∷ rules)) 0 none in absurd (omega (arith, zero_long))

-- the precomputed answers if no rule matches
pub answers_unmatched : (t : Table) (kept : CompiledAnswers) (rules : List ℕ) (answers : List Answer) → kept ≡ compiled_answers t → (length rules == 0) ≡ true → kept.unmatched ≡ Some answers
    → (number : ℕ) → by_hit t.hit number t rules ≡ Ok answers
answers_unmatched t kept rules answers is none at number =
    ap (by_hit t.hit number t) (is_none rules none) ∙ as_answered t [] answers (ap (λ (k : CompiledAnswers). k.unmatched) (sym is) ∙ at) number

-- the precomputed answers of a rule that decides the matching rules
pub answers_alone_hold : (t : Table) (kept : CompiledAnswers) (rules : List ℕ) (rule : ℕ) (listed : List (Option (List Answer))) (found : Option (List Answer)) (answers : List Answer) → kept ≡ compiled_answers t
    → ((number : ℕ) → by_hit t.hit number t rules ≡ by_hit t.hit number t (rule ∷ [])) → listed ≡ kept.alone → true ≡ nat_lt rule (length listed) → found ≡ get_or listed rule found → found ≡ Some answers
    → (number : ℕ) → by_hit t.hit number t rules ≡ Ok answers
answers_alone_hold t kept rules rule listed found answers is same listed_is below found_is at number =
    let located : slice_get kept.alone rule ≡ Some found = ap (λ xs. slice_get xs rule) (sym listed_is) ∙ found_at listed rule found below found_is in
    same number ∙ as_answered t (rule ∷ []) answers (alone_answered t kept rule found is located ∙ at) number
