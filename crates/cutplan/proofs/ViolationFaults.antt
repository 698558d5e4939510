-- The faults of tables if no rule matches, and if two rules match although the hit policy forbids
-- it.
use Rattle.std.proofs.Common.{◌≡◌, ℕ, ◌-◌, ◌≤◌, ◌<◌, ◌&&◌, inl, inr, Bool, true, false, not, cond, List, [], ◌∷◌, Some, None, refl, ap, sym, ◌∙◌, arith}
use Rattle.std.specs.Prelude.{◌↔◌, IsTrue, Ok, Err, is_some, slice_get}
use Rattle.std.specs.List.{filter_map, list_all}
use Rattle.std.specs.Option.{option_map_or}
use Rattle.std.specs.Cmp.Lexicographic.{pointwise_decides}
use Rattle.std.proofs.lemmas.Bool.{and_parts, both_ways}
use Rattle.tables.specs.declared.environment.Answer.{Answer}
use Rattle.faults.specs.declared.fault.Fault.TheVariants.{NoRule, Clash}
use Rattle.tables.specs.declared.hit.Hit.{Hit}
use Rattle.tables.specs.declared.hit.Hit.TheVariants as hits
use Rattle.tables.specs.declared.inputs.Slot.{Slot}
use Rattle.tables.specs.declared.table.Table.{Table}
use Rattle.tables.specs.Environment.{inside, number_after, table_value}
use Rattle.tables.specs.HitPolicy.{TableValue, agree, any, by_hit, ones, unique, no_match_value}
use Rattle.tables.specs.Matching.{matching, first_outside}
use Rattle.tables.specs.Plan.{PlanParts, gives_one}
use Rattle.tables.specs.Priority.{entries_of}
use Rattle.cutplan.proofs.Alike.{Among}
use Rattle.cutplan.proofs.ColumnWise.{among_contained}
use Rattle.cutplan.proofs.CutLists.{equal_same, equal_from}
use Rattle.cutplan.proofs.Clashing.{reports_clash}
use Rattle.cutplan.specs.Violations.{clash, gap_is_error, is_no_rule, overlap_is_error, needs_match}
use Rattle.cutplan.specs.ViolationLaws.{ReportsGap, ReportsOverlap, ErrorsAreFaults}

-- the table has a `NoRule` fault if and only if some output has no default
abbrev Unmatched : ℕ → Table → Bool → Type 0
Unmatched number t b = (v : TableValue) → v ≡ cond b (Ok (ones (filter_map (λ o. o.fallback) t.outputs))) (Err (NoRule number)) → (v ≡ Err (NoRule number)) ↔ IsTrue (is_no_rule v)

no_rule_reported : (number : ℕ) (t : Table) → (no_match_value number t ≡ Err (NoRule number)) ↔ IsTrue (is_no_rule (no_match_value number t))
no_rule_reported number t =
    elim (list_all (λ o. is_some o.fallback) t.outputs) as (Unmatched number t) [
      | true ↦ λ v e. (λ same. absurd cc, λ yes. absurd (both_ways false refl (sym (ap is_no_rule e) ∙ yes)))
      | false ↦ λ v e. (λ same. ap is_no_rule same, λ yes. e)
    ] (no_match_value number t) refl

-- the fault under each hit policy if no rule matches
reported_by_hit : (hit : Hit) (number : ℕ) (t : Table) → (by_hit hit number t [] ≡ Err (NoRule number)) ↔ IsTrue (gives_one hit && is_no_rule (no_match_value number t))
reported_by_hit hits.U number t = no_rule_reported number t
reported_by_hit hits.A number t = no_rule_reported number t
reported_by_hit hits.P number t = no_rule_reported number t
reported_by_hit hits.F number t = no_rule_reported number t
reported_by_hit hits.O number t = (λ e. absurd cc, λ e. absurd (both_ways false refl e))
reported_by_hit hits.R number t = (λ e. absurd cc, λ e. absurd (both_ways false refl e))
reported_by_hit hits.C number t = (λ e. absurd cc, λ e. absurd (both_ways false refl e))
reported_by_hit hits.Sum number t = no_rule_reported number t
reported_by_hit hits.Min number t = no_rule_reported number t
reported_by_hit hits.Max number t = no_rule_reported number t
reported_by_hit hits.Count number t = no_rule_reported number t

-- if all inputs have allowed values, the hit policy determines the value from the matching rules
inside_value : (given : List Slot) (earlier : List (List Answer)) (t : Table) → first_outside given earlier t ≡ None
    → table_value given earlier t ≡ by_hit t.hit (number_after earlier) t (matching given earlier t)
inside_value given earlier t none = ap (λ found. inside found (number_after earlier) (by_hit t.hit (number_after earlier) t (matching given earlier t))) none

reports_gap : (p : PlanParts) (t : Table) (given : List Slot) (earlier : List (List Answer)) → slice_get p.tables (number_after earlier - 1) ≡ Some t → ReportsGap p t given earlier
reports_gap p t given earlier present none unmatched_by =
    let number = number_after earlier in
    let value = inside_value given earlier t none ∙ ap (by_hit t.hit number t) unmatched_by in
    let violates : gap_is_error p number ≡ needs_match number t = ap (λ found. option_map_or (needs_match number) found false) present in
    let reported = reported_by_hit t.hit number t in
    (λ e. violates ∙ reported.0 (sym value ∙ e), λ yes. value ∙ reported.1 (sym violates ∙ yes))

-- a list with two rules has more than one, so `U` clashes
unique_clashes : (number : ℕ) (t : Table) (rules : List ℕ) (i j : ℕ) → i < j → Among i rules → Among j rules → unique number t rules ≡ Err (Clash number)
unique_clashes number t [] i j less one other = absurd one
unique_clashes number t (r ∷ []) i j less (inl e) (inl f) = absurd (omega (arith, less, e, f))
unique_clashes number t (r ∷ []) i j less (inl e) (inr f) = absurd f
unique_clashes number t (r ∷ []) i j less (inr e) other = absurd e
unique_clashes number t (r ∷ s ∷ rules) i j less one other = refl

-- rules agree if and only if their entries are equal
agreed : (t : Table) (i j : ℕ) → (agree t i j ≡ true → entries_of t i ≡ entries_of t j) × (entries_of t i ≡ entries_of t j → agree t i j ≡ true)
agreed t i j = pointwise_decides (λ v w. (equal_same v w, equal_from v w)) (entries_of t i) (entries_of t j)

-- a test that holds for all holds for each
all_at : (q : ℕ → Bool) (xs : List ℕ) (x : ℕ) → list_all q xs ≡ true → Among x xs → q x ≡ true
all_at q [] x all at = absurd at
all_at q (y ∷ ys) x all (inl e) = ap q (sym e) ∙ (and_parts (q y) (list_all q ys) all).0
all_at q (y ∷ ys) x all (inr at) = all_at q ys x (and_parts (q y) (list_all q ys) all).1 at

-- if all other rules agree with the first, each has the first rule's entries
same_as_first : (t : Table) (r : ℕ) (rules : List ℕ) → list_all (agree t r) rules ≡ true → (i : ℕ) → Among i (r ∷ rules) → entries_of t r ≡ entries_of t i
same_as_first t r rules all i (inl e) = ap (entries_of t) e
same_as_first t r rules all i (inr at) = (agreed t r i).0 (all_at (agree t r) rules i all at)

-- a list with two rules of different entries clashes under `A`
any_clashes : (number : ℕ) (t : Table) (rules : List ℕ) (i j : ℕ) → Among i rules → Among j rules → not (agree t i j) ≡ true → any number t rules ≡ Err (Clash number)
any_clashes number t [] i j one other apart = absurd one
any_clashes number t (r ∷ rules) i j one other apart =
    elim (list_all (agree t r) rules) as (λ b. list_all (agree t r) rules ≡ b → cond b (Ok (ones (entries_of t r))) (Err (Clash number)) ≡ Err (Clash number)) [
      | true ↦ λ all.
          (let same = sym (same_as_first t r rules all i one) ∙ same_as_first t r rules all j other in
          absurd (both_ways false refl (sym (ap not ((agreed t i j).1 same)) ∙ apart)))
      | false ↦ λ all. refl
    ] refl

-- two rules clash under each hit policy that forbids that both match
clashes_by_hit : (hit : Hit) (number : ℕ) (t : Table) (rules : List ℕ) (i j : ℕ) → i < j → Among i rules → Among j rules → clash hit t i j ≡ true → by_hit hit number t rules ≡ Err (Clash number)
clashes_by_hit hits.U number t rules i j less one other e = unique_clashes number t rules i j less one other
clashes_by_hit hits.A number t rules i j less one other e = any_clashes number t rules i j one other e
clashes_by_hit hits.P number t rules i j less one other e = absurd (both_ways false refl e)
clashes_by_hit hits.F number t rules i j less one other e = absurd (both_ways false refl e)
clashes_by_hit hits.O number t rules i j less one other e = absurd (both_ways false refl e)
clashes_by_hit hits.R number t rules i j less one other e = absurd (both_ways false refl e)
clashes_by_hit hits.C number t rules i j less one other e = absurd (both_ways false refl e)
clashes_by_hit hits.Sum number t rules i j less one other e = absurd (both_ways false refl e)
clashes_by_hit hits.Min number t rules i j less one other e = absurd (both_ways false refl e)
clashes_by_hit hits.Max number t rules i j less one other e = absurd (both_ways false refl e)
clashes_by_hit hits.Count number t rules i j less one other e = absurd (both_ways false refl e)

reports_overlap : (p : PlanParts) (t : Table) (given : List Slot) (earlier : List (List Answer)) → slice_get p.tables (number_after earlier - 1) ≡ Some t
    → (first second : ℕ) → 1 ≤ first → first < second → ReportsOverlap p t given earlier first second
reports_overlap p t given earlier present first second low less both violates =
    let number = number_after earlier in
    let rules = matching given earlier t in
    let violation : overlap_is_error p number first second ≡ clash t.hit t (first - 1) (second - 1) =
    ap (λ found. option_map_or (λ x. clash x.hit x (first - 1) (second - 1)) found false) present in
    inside_value given earlier t both.inside
    ∙ clashes_by_hit t.hit number t rules (first - 1) (second - 1) (omega (arith, low, less)) (among_contained rules (first - 1) both.one)
    (among_contained rules (second - 1) both.other) (sym violation ∙ violates)

pub errors_are_faults : ErrorsAreFaults
errors_are_faults p t given earlier present = record {
  gap = reports_gap p t given earlier present;
  clash = reports_clash p t given earlier present;
  overlap = reports_overlap p t given earlier present;
}
