-- The rules of a table clash only if two of them match whose overlap is an error.
use Rattle.std.proofs.Common.{◌≡◌, ℕ, zero, suc, ◌+◌, ◌-◌, ◌<◌, ◌≤◌, ◌&&◌, inl, inr, Bool, true, false, not, cond, List, [], ◌∷◌, length, filter, Option, Some, None, Contains, refl, ap, sym, ◌∙◌, subst, arith}
use Rattle.std.specs.Prelude.{Ok, Err, is_some, nat_le, slice_get, ℤ, ◌+ℤ◌}
use Rattle.std.specs.Int.{int_min, int_max}
use Rattle.std.specs.List.{filter_map, list_all, range_with_len, reduce}
use Rattle.std.specs.Option.{option_map_or}
use Rattle.std.specs.Int.RustNames.{unsigned_abs}
use Rattle.std.proofs.lemmas.Bool.{both_ways}
use Rattle.fixpoint.specs.Number.{greatest_units}
use Rattle.feel_tests.specs.declared.value.Value.TheVariants.{Number}
use Rattle.tables.specs.declared.environment.Answer.{Answer}
use Rattle.tables.specs.declared.environment.Answer.TheVariants.{One}
use Rattle.faults.specs.declared.fault.Fault.TheVariants.{NoRule, Clash, Range}
use Rattle.tables.specs.declared.hit.Hit.{Hit}
use Rattle.tables.specs.declared.hit.Hit.TheVariants as hits
use Rattle.tables.specs.declared.inputs.Slot.{Slot}
use Rattle.tables.specs.declared.table.Table.{Table}
use Rattle.tables.specs.Environment.{inside, number_after}
use Rattle.tables.specs.HitPolicy.{aggregate_value, agree, by_hit, count_units, match_count, number_answer, numbers_of, of_rule, ones, no_match_value}
use Rattle.tables.specs.Matching.{matching, first_outside, rule_matches}
use Rattle.tables.specs.Plan.{PlanParts}
use Rattle.tables.specs.Priority.{entries_of, highest_rule}
use Rattle.cutplan.proofs.Alike.{Among}
use Rattle.cutplan.proofs.Overlapping.{contained_among}
use Rattle.cutplan.specs.Violations.{clash}
use Rattle.cutplan.specs.ViolationLaws.{ViolatingPair, ReportsClash}

-- a number of a range that passes a test is at least the first number of the range
no_less : (q : ℕ → Bool) (a n s : ℕ) → Among s (filter q (range_with_len a n)) → a ≤ s
no_less q a zero s at = absurd at
no_less q a (suc n) s at =
    elim (q a) as (λ b. Among s (cond b (a ∷ filter q (range_with_len (a + 1) n)) (filter q (range_with_len (a + 1) n))) → a ≤ s) [
      | true ↦ λ at. elim at [ inl e ↦ omega (arith, e) | inr more ↦ (let above = no_less q (a + 1) n s more in omega (arith, above)) ]
      | false ↦ λ at. (let above = no_less q (a + 1) n s at in omega (arith, above))
    ] at

-- the first rule is less than the others
abbrev IsLeast : List ℕ → Type 0
IsLeast [] = Unit {0}
IsLeast (x ∷ xs) = (s : ℕ) → Among s xs → x < s

least_first : (q : ℕ → Bool) (a n : ℕ) → IsLeast (filter q (range_with_len a n))
least_first q a zero = tt
least_first q a (suc n) =
    elim (q a) as (λ b. IsLeast (cond b (a ∷ filter q (range_with_len (a + 1) n)) (filter q (range_with_len (a + 1) n)))) [
      | true ↦ λ s at. (let above = no_less q (a + 1) n s at in omega (arith, above))
      | false ↦ least_first q (a + 1) n
    ]

-- a test that does not hold for all fails for one
record Fails (q : ℕ → Bool) (xs : List ℕ) : Type 0 where
  pub one : ℕ
  pub among : Among one xs
  pub fails : q one ≡ false

one_fails : (q : ℕ → Bool) (xs : List ℕ) → list_all q xs ≡ false → Fails q xs
one_fails q [] e = absurd (both_ways true e refl)
one_fails q (x ∷ xs) e =
    elim (q x) as (λ b. q x ≡ b → (b && list_all q xs) ≡ false → Fails q (x ∷ xs)) [
      | true ↦ λ here more. (let rest = one_fails q xs more in record { one = rest.one; among = inr rest.among; fails = rest.fails })
      | false ↦ λ here more. record { one = x; among = inl refl; fails = here }
    ] refl e

-- two of these rules of which the hit policy forbids that both match
record Clashing (hit : Hit) (t : Table) (rules : List ℕ) : Type 0 where
  pub one : ℕ
  pub other : ℕ
  pub less : one < other
  pub first : Among one rules
  pub second : Among other rules
  pub clashes : clash hit t one other ≡ true

-- no rules clash if no rule matches
unmatched_apart : {X : Type 0} (number : ℕ) (t : Table) → no_match_value number t ≡ Err (Clash number) → X
unmatched_apart {X} number t =
    elim (list_all (λ o. is_some o.fallback) t.outputs) as (λ b. cond b (Ok (ones (filter_map (λ o. o.fallback) t.outputs))) (Err (NoRule number)) ≡ Err (Clash number) → X) [
      | true ↦ λ e. absurd cc
      | false ↦ λ e. absurd cc
    ]

of_rule_apart : {X : Type 0} (number : ℕ) (t : Table) (rule : Option ℕ) → of_rule number t rule ≡ Err (Clash number) → X
of_rule_apart number t None e = unmatched_apart number t e
of_rule_apart number t (Some rule) e = absurd cc

number_apart : {X : Type 0} (number : ℕ) (units : ℤ) → number_answer number units ≡ Err (Clash number) → X
number_apart {X} number units =
    elim (nat_le (unsigned_abs units) greatest_units) as (λ b. cond b (Ok (One (Number units) ∷ [])) (Err (Range number)) ≡ Err (Clash number) → X) [
      | true ↦ λ e. absurd cc
      | false ↦ λ e. absurd cc
    ]

aggregated_apart : {X : Type 0} (number : ℕ) (t : Table) (units : Option ℤ) → aggregate_value number t units ≡ Err (Clash number) → X
aggregated_apart number t None e = unmatched_apart number t e
aggregated_apart number t (Some units) e = number_apart number units e

counted_apart : {X : Type 0} (number : ℕ) (t : Table) (rules : List ℕ) → match_count number t rules ≡ Err (Clash number) → X
counted_apart number t [] e = unmatched_apart number t e
counted_apart number t (r ∷ rules) e = number_apart number (count_units (length (r ∷ rules))) e

any_pair : (number : ℕ) (t : Table) (r : ℕ) (rules : List ℕ) → IsLeast (r ∷ rules) → by_hit hits.A number t (r ∷ rules) ≡ Err (Clash number) → Clashing hits.A t (r ∷ rules)
any_pair number t r rules least e =
    elim (list_all (agree t r) rules) as (λ b. list_all (agree t r) rules ≡ b → cond b (Ok (ones (entries_of t r))) (Err (Clash number)) ≡ Err (Clash number) → Clashing hits.A t (r ∷ rules)) [
      | true ↦ λ all e. absurd cc
      | false ↦ λ all e.
          (let apart = one_fails (agree t r) rules all in
          record { one = r; other = apart.one; less = least apart.one apart.among; first = inl refl; second = inr apart.among; clashes = ap not apart.fails })
    ] refl e

-- a clash comes from such a pair under each hit policy
pair_of : (hit : Hit) (number : ℕ) (t : Table) (rules : List ℕ) → IsLeast rules → by_hit hit number t rules ≡ Err (Clash number) → Clashing hit t rules
pair_of hits.U number t [] least e = unmatched_apart number t e
pair_of hits.U number t (r ∷ []) least e = absurd cc
pair_of hits.U number t (r ∷ s ∷ rules) least e = record { one = r; other = s; less = least s (inl refl); first = inl refl; second = inr (inl refl); clashes = refl }
pair_of hits.A number t [] least e = unmatched_apart number t e
pair_of hits.A number t (r ∷ rules) least e = any_pair number t r rules least e
pair_of hits.P number t rules least e = of_rule_apart number t (highest_rule t rules) e
pair_of hits.F number t rules least e = of_rule_apart number t (slice_get rules 0) e
pair_of hits.O number t rules least e = absurd cc
pair_of hits.R number t rules least e = absurd cc
pair_of hits.C number t rules least e = absurd cc
pair_of hits.Sum number t rules least e = aggregated_apart number t (reduce ◌+ℤ◌ (numbers_of t rules)) e
pair_of hits.Min number t rules least e = aggregated_apart number t (reduce int_min (numbers_of t rules)) e
pair_of hits.Max number t rules least e = aggregated_apart number t (reduce int_max (numbers_of t rules)) e
pair_of hits.Count number t rules least e = counted_apart number t rules e

back : (n : ℕ) → suc n - 1 ≡ n
back n = omega arith

-- such a pair with numbers from 1
numbered : (p : PlanParts) (t : Table) (given : List Slot) (earlier : List (List Answer)) → slice_get p.tables (number_after earlier - 1) ≡ Some t
    → first_outside given earlier t ≡ None → Clashing t.hit t (matching given earlier t) → ViolatingPair p t given earlier
numbered p t given earlier present none pair =
    let rules = matching given earlier t in
    let Among_rules : ℕ → Type 0 = λ x. Contains rules x in
    record {
      first = suc pair.one;
      second = suc pair.other;
      low = omega arith;
      less = omega (arith, pair.less);
      together = record {
        inside = none;
        one = subst Among_rules (sym (back pair.one)) (contained_among rules pair.one pair.first);
        other = subst Among_rules (sym (back pair.other)) (contained_among rules pair.other pair.second);
      };
      violates = ap (λ found. option_map_or (λ x. clash x.hit x (suc pair.one - 1) (suc pair.other - 1)) found false) present
          ∙ ap (λ i. clash t.hit t i (suc pair.other - 1)) (back pair.one) ∙ ap (λ j. clash t.hit t pair.one j) (back pair.other) ∙ pair.clashes;
    }

-- a value that is not allowed is reported as such and not as a clash
pub reports_clash : (p : PlanParts) (t : Table) (given : List Slot) (earlier : List (List Answer)) → slice_get p.tables (number_after earlier - 1) ≡ Some t → ReportsClash p t given earlier
reports_clash p t given earlier present =
    let number = number_after earlier in
    let rules = matching given earlier t in
    elim (first_outside given earlier t) as (λ found. first_outside given earlier t ≡ found → inside found number (by_hit t.hit number t rules) ≡ Err (Clash number) → ViolatingPair p t given earlier) [
      | None ↦ λ none e. numbered p t given earlier present none (pair_of t.hit number t rules (least_first (rule_matches given earlier t) 0 (length t.rules)) e)
      | Some column ↦ λ there e. absurd cc
    ] refl
