-- Each allowed value lies in exactly one region of its column.
use Rattle.std.proofs.Common.{◌≡◌, ℕ, ◌+◌, inl, inr, ◌||◌, Bool, true, false, not, cond, List, [], ◌∷◌, ◌++◌, map, filter, Option, Some, None, refl, ap, sym, ◌∙◌, subst, arith}
use Rattle.std.specs.Prelude.{count_by}
use Rattle.std.specs.List.{list_any, flat_map}
use Rattle.std.specs.Option.{option_map_or}
use Rattle.std.proofs.lemmas.Bool.{both_ways, and_parts, and_from, false_from_ne_true}
use Rattle.feel_tests.specs.Holds.{is_equal, holds}
use Rattle.feel_tests.specs.declared.cell.Cell.{Cell}
use Rattle.feel_tests.specs.declared.kind.Kind.{Kind}
use Rattle.feel_tests.specs.declared.kind.Kind.TheVariants as kinds
use Rattle.feel_tests.specs.declared.value.Value.{Value}
use Rattle.feel_tests.specs.declared.value.Value.TheVariants.{Number, Text, Flag, Day}
use Rattle.tables.specs.declared.table.Input.{Input}
use Rattle.tables.specs.declared.table.Table.{Table}
use Rattle.tables.specs.Plan.{PlanParts, has_kind}
use Rattle.regions.specs.declared.region.Region.{Region}
use Rattle.regions.specs.declared.region.Region.TheVariants.{At, Other}
use Rattle.regions.specs.Values.{is_value, kind_read, sort_values}
use Rattle.regions.specs.Regions.{column_of, column_literals, rule_literals, literals, regions, stretches, regions_of_order, regions_of_names, is_listed, is_allowed, is_in, has_value, holds_in}
use Rattle.cutplan.specs.Laws.{RegionsPartValues}
use Rattle.cutplan.proofs.Alike.{Each, Among, each_from, among_right}
use Rattle.cutplan.proofs.Ordered.{counted, none_if, one_if, count_no, count_yes, one_region}
use Rattle.cutplan.proofs.CutLists.{Distinct, fold_distinct, equal_same}
use Rattle.cutplan.proofs.Regionwise.{numbers, days, number_is, day_is, text_is, number_cuts, day_cuts}
use Rattle.cutplan.proofs.ColumnWise.{column_at, value_kind}
use Rattle.cutplan.proofs.OpenRegions.{located}

-- a filter keeps the number of elements that pass a stronger test
count_kept : (p q : Region → Bool) (xs : List Region) → Each (λ x. q x ≡ true → p x ≡ true) xs → count_by q (filter p xs) ≡ count_by q xs
count_kept p q [] all = refl
count_kept p q (x ∷ xs) all =
    elim (p x) as (λ b. p x ≡ b → count_by q (cond b (x ∷ filter p xs) (filter p xs)) ≡ count_by q (x ∷ xs)) [
      | true ↦ λ e. elim (q x) as (λ b. q x ≡ b → count_by q (x ∷ filter p xs) ≡ count_by q (x ∷ xs)) [
        | true ↦ λ f. count_yes q x (filter p xs) (count_by q xs) f (count_kept p q xs all.1) ∙ sym (count_yes q x xs (count_by q xs) f refl)
        | false ↦ λ f. count_no q x (filter p xs) (count_by q xs) f (count_kept p q xs all.1) ∙ sym (count_no q x xs (count_by q xs) f refl)
      ] refl
      | false ↦ λ e. count_kept p q xs all.1 ∙ sym (count_no q x xs (count_by q xs) (false_from_ne_true (q x) (λ f. both_ways (p x) e (all.0 f))) refl)
    ] refl

-- a text equals at most one of the names
named_once : (t : List ℕ) (xs : List Value) (rest : List Region) (n : ℕ) → Distinct xs → count_by (λ r. is_in r (Text t)) rest ≡ n
    → count_by (λ r. is_in r (Text t)) (map At xs ++ rest) ≡ counted (list_any (λ x. is_equal (Text t) x) xs) + n
named_once t [] rest n all e = e ∙ omega arith
named_once t (x ∷ xs) rest n all e =
    elim (is_equal (Text t) x) as (λ b. is_equal (Text t) x ≡ b → count_by (λ r. is_in r (Text t)) (At x ∷ (map At xs ++ rest)) ≡ counted (b || list_any (λ y. is_equal (Text t) y) xs) + n) [
      | true ↦ λ here.
          let same = equal_same (Text t) x here in
          let out : list_any (λ y. is_equal (Text t) y) xs ≡ false = false_from_ne_true (list_any (λ y. is_equal (Text t) y) xs) (λ found. all.0 (subst (λ v. Among v xs) same (equal_among (Text t) xs found))) in
          let more = named_once t xs rest n all.1 e in
          let none = none_if (list_any (λ y. is_equal (Text t) y) xs) out in
          let rest_is : count_by (λ r. is_in r (Text t)) (map At xs ++ rest) ≡ n = omega (arith, more, none) in
          count_yes (λ r. is_in r (Text t)) (At x) (map At xs ++ rest) n here rest_is
      | false ↦ λ here. count_no (λ r. is_in r (Text t)) (At x) (map At xs ++ rest) (counted (list_any (λ y. is_equal (Text t) y) xs) + n) here (named_once t xs rest n all.1 e)
    ] refl where
      equal_among : (v : Value) (ys : List Value) → list_any (λ y. is_equal v y) ys ≡ true → Among v ys
      equal_among v [] found = absurd (both_ways false refl found)
      equal_among v (y ∷ ys) found =
          elim (is_equal v y) as (λ b. is_equal v y ≡ b → (b || list_any (λ z. is_equal v z) ys) ≡ true → Among v (y ∷ ys)) [
            | true ↦ λ here _. inl (sym (equal_same v y here))
            | false ↦ λ _ more. inr (equal_among v ys more)
          ] refl found

named_count : (t : List ℕ) (cs : List Value) → Distinct cs → count_by (λ r. is_in r (Text t)) (regions_of_names cs) ≡ 1
named_count t [] all = refl
named_count t (c ∷ cs) all =
    elim (list_any (λ x. is_equal (Text t) x) (c ∷ cs)) as (λ b. list_any (λ x. is_equal (Text t) x) (c ∷ cs) ≡ b → count_by (λ r. is_in r (Text t)) (regions_of_names (c ∷ cs)) ≡ 1) [
      | true ↦ λ e.
          let last = count_no (λ r. is_in r (Text t)) (Other (c ∷ cs)) [] 0 (ap not e) refl in
          let all_of = named_once t (c ∷ cs) (Other (c ∷ cs) ∷ []) 0 all last in
          let here = one_if (list_any (λ x. is_equal (Text t) x) (c ∷ cs)) e in
          omega (arith, all_of, here)
      | false ↦ λ e.
          let last = count_yes (λ r. is_in r (Text t)) (Other (c ∷ cs)) [] 0 (ap not e) refl in
          let all_of = named_once t (c ∷ cs) (Other (c ∷ cs) ∷ []) 1 all last in
          let here = none_if (list_any (λ x. is_equal (Text t) x) (c ∷ cs)) e in
          omega (arith, all_of, here)
    ] refl

-- each value of the kind lies in one region, counting also those without allowed values
pub stretch_count : (kind : Kind) (lits : List Value) (v : Value) → has_kind kind v ≡ true → count_by (λ r. is_in r v) (stretches kind (sort_values (filter (has_kind kind) lits))) ≡ 1
stretch_count kinds.Number lits v kinded =
    let a = number_is v kinded in
    let cuts = number_cuts lits in
    ap (λ x. count_by (λ r. is_in r x) (regions_of_order (sort_values (filter (has_kind kinds.Number) lits)))) a.1 ∙ ap (λ cs. count_by (λ r. is_in r (Number a.0)) (regions_of_order cs)) cuts.made ∙ one_region numbers cuts.numbers a.0 cuts.rising
stretch_count kinds.Day lits v kinded =
    let a = day_is v kinded in
    let cuts = day_cuts lits in
    ap (λ x. count_by (λ r. is_in r x) (regions_of_order (sort_values (filter (has_kind kinds.Day) lits)))) a.1 ∙ ap (λ cs. count_by (λ r. is_in r (Day a.0)) (regions_of_order cs)) cuts.made ∙ one_region days cuts.numbers a.0 cuts.rising
stretch_count kinds.Text lits v kinded =
    let a = text_is v kinded in
    ap (λ x. count_by (λ r. is_in r x) (regions_of_names (sort_values (filter (has_kind kinds.Text) lits)))) a.1 ∙ named_count a.0 (sort_values (filter (has_kind kinds.Text) lits)) (fold_distinct [] (filter (has_kind kinds.Text) lits) tt)
stretch_count kinds.Flag lits (Flag true) kinded = refl
stretch_count kinds.Flag lits (Flag false) kinded = refl
stretch_count kinds.Flag lits (Number a) kinded = absurd (cc)
stretch_count kinds.Flag lits (Text a) kinded = absurd (cc)
stretch_count kinds.Flag lits (Day a) kinded = absurd (cc)

-- a region with an allowed value is listed
listed_of : (kind : Kind) (lits : List Value) (values : Option Cell) → ((l : Value) → Among l (option_map_or literals values []) → Among l lits) → (v : Value) → has_kind kind v ≡ true → is_value kind v ≡ true → option_map_or (λ cell. holds cell v) values true ≡ true
    → (r : Region) → Among r (stretches kind (sort_values (filter (has_kind kind) lits))) → is_in r v ≡ true → is_listed values r ≡ true
listed_of kind lits None inside v kinded value allowed r at in_v = and_from (has_value r) true (located kind lits r at v kinded value in_v).has refl
listed_of kind lits (Some cell) inside v kinded value allowed r at in_v =
    let here = located kind lits r at v kinded value in_v in
    and_from (has_value r) (holds_in cell r) here.has (here.asked cell inside ∙ allowed)

pub part_of_column : (p : PlanParts) (t : Table) (place : ℕ) (input : Input) (v : Value) → is_allowed (column_of p t place input) v ≡ true → count_by (λ r. is_in r v) (regions (column_of p t place input)) ≡ 1
part_of_column p t place input v allowed =
    let kind = kind_read p input.origin in
    let lits = column_literals t place input.values in
    let parts = and_parts (is_value kind v) (option_map_or (λ cell. holds cell v) input.values true) allowed in
    let kinded = value_kind kind v parts.0 in
    count_kept (is_listed input.values) (λ r. is_in r v) (stretches kind (sort_values (filter (has_kind kind) lits)))
    (each_from (λ r. is_in r v ≡ true → is_listed input.values r ≡ true) (stretches kind (sort_values (filter (has_kind kind) lits)))
    (λ r at in_v. listed_of kind lits input.values (λ l l_at. among_right l (flat_map (rule_literals place) t.rules) (option_map_or literals input.values []) l_at) v kinded parts.0 parts.1 r at in_v))
    ∙ stretch_count kind lits v kinded

pub regions_part_values : RegionsPartValues
regions_part_values p t place column found v allowed =
    let of_input = column_at p t 0 t.inputs place column found in
    let zero_place : 0 + place ≡ place = omega arith in
    let same : column ≡ column_of p t place of_input.0 = sym of_input.1 ∙ ap (λ k. column_of p t k of_input.0) zero_place in
    ap (λ c. count_by (λ r. is_in r v) (regions c)) same ∙ part_of_column p t place of_input.0 v (subst (λ c. is_allowed c v ≡ true) same allowed)
