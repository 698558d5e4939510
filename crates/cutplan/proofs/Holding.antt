-- Each region of a column contains an allowed value.
use Rattle.std.proofs.Common.{◌≡◌, ℕ, ℤ, suc, pos, ◌+◌, ◌<◌, ◌<ℤ◌, ◌+ℤ◌, inl, inr, Bool, true, false, not, cond, List, [], ◌∷◌, length, replicate, map, filter, Option, Some, None, refl, ap, sym, ◌∙◌, subst, arith}
use Rattle.std.specs.List.{list_any, flat_map}
use Rattle.std.specs.Option.{option_map_or}
use Rattle.std.specs.Int.{int_max}
use Rattle.std.specs.Cmp.Lexicographic.{bytes_decides}
use Rattle.std.proofs.lemmas.Int.{ints, by_lt_z}
use Rattle.std.proofs.lemmas.List.{length-replicate}
use Rattle.std.proofs.lemmas.Bool.{and_parts, and_from, both_ways, false_from_ne_true, or_from}
use Rattle.feel_tests.specs.Holds.{is_equal, is_less, holds}
use Rattle.feel_tests.specs.Value.{kind_of}
use Rattle.feel_tests.specs.declared.cell.Cell.{Cell}
use Rattle.feel_tests.specs.declared.kind.Kind.{Kind}
use Rattle.feel_tests.specs.declared.kind.Kind.TheVariants as kinds
use Rattle.feel_tests.specs.declared.value.Value.{Value}
use Rattle.feel_tests.specs.declared.value.Value.TheVariants.{Number, Text, Flag, Day}
use Rattle.tables.specs.declared.table.Input.{Input}
use Rattle.tables.specs.declared.table.Table.{Table}
use Rattle.tables.specs.Plan.{PlanParts, has_kind}
use Rattle.regions.specs.declared.region.Region.{Region}
use Rattle.regions.specs.declared.region.Region.TheVariants.{Below, At, Between, Above, Other, Every}
use Rattle.regions.specs.Values.{is_value, kind_read, sort_values}
use Rattle.regions.specs.Regions.{Column, column_of, column_literals, rule_literals, literals, regions, stretches, regions_of_order, regions_of_names, has_value, holds_in, is_listed, is_allowed, is_in, least_like, next}
use Rattle.cutplan.specs.Laws.{RegionsHoldValues}
use Rattle.regions.proofs.Integers.{lt_true}
use Rattle.cutplan.proofs.Alike.{Among, each_at, among_right}
use Rattle.cutplan.proofs.CutLists.{equal_itself, rising_only}
use Rattle.cutplan.proofs.Regionwise.{among_split}
use Rattle.cutplan.proofs.ColumnWise.{column_at, value_kind, among_contained, among_unfilter}
use Rattle.cutplan.proofs.OpenRegions.{Spanned, Shape, shapes, located, number_spanned, day_spanned, max_low, max_high}

-- a value of the kind that lies in the region
pub record Holder (kind : Kind) (r : Region) : Type 0 where
  pub held : Value
  pub value : is_value kind held ≡ true
  pub inside : is_in r held ≡ true

pub among_passes : {X : Type 0} (p : X → Bool) (x : X) (xs : List X) → Among x (filter p xs) → p x ≡ true
among_passes p x [] at = absurd at
among_passes p x (y ∷ ys) at =
    elim (p y) as (λ b. p y ≡ b → Among x (cond b (y ∷ filter p ys) (filter p ys)) → p x ≡ true) [
      | true ↦ λ e at. elim at [ inl same ↦ ap p (sym same) ∙ e | inr more ↦ among_passes p x ys more ]
      | false ↦ λ e at. among_passes p x ys at
    ] refl at

-- the value after a cut, if there is one
next_holder : {kind : Kind} {mk : ℤ → Value} → (s : Spanned kind mk) → (c : ℤ) (P : Value → Bool) → option_map_or P (next (mk c)) false ≡ true
    → (is_value kind (mk (int_max s.least (c +ℤ pos 1))) ≡ true) × (P (mk (int_max s.least (c +ℤ pos 1))) ≡ true)
next_holder {kind} {mk} s c P has =
    by_lt_z s.greatest (int_max s.least (c +ℤ pos 1))
    (λ over. absurd (both_ways false refl (ap (λ o. option_map_or P o false) (sym (s.beyond c over)) ∙ has)))
    (λ most. (s.value (int_max s.least (c +ℤ pos 1)) (max_low s.least (c +ℤ pos 1)) most, ap (λ o. option_map_or P o false) (sym (s.following c most)) ∙ has))

over_cut : (least c : ℤ) → c <ℤ int_max least (c +ℤ pos 1)
over_cut least c = let high = max_high least (c +ℤ pos 1) in omega (arith, ints, high)

span_holder : {kind : Kind} {mk : ℤ → Value} → Spanned kind mk → (zs : List ℤ) (r : Region) → Shape mk zs r → has_value r ≡ true → Holder kind r
span_holder {kind} {mk} s zs (Below u) shape has =
    let found = ap least_like shape.1 ∙ s.first shape.0 in
    record { held = mk s.least; value = s.value s.least (omega (arith, ints)) s.some; inside = ap (λ o. option_map_or (λ v. is_less v u) o false) (sym found) ∙ has }
span_holder {kind} {mk} s zs (At u) shape has =
    let e = shape.1 in
    record { held = u; value = ap (λ k. is_value k u) (sym (ap kind_of e ∙ s.of_kind shape.0)) ∙ has; inside = equal_itself u }
span_holder {kind} {mk} s zs (Between u w) shape has =
    let c = shape.0 in
    let e = shape.2 in
    let m = int_max s.least (c +ℤ pos 1) in
    let found = next_holder s c (λ v. is_less v w) (ap (λ x. option_map_or (λ v. is_less v w) (next x) false) (sym e) ∙ has) in
    let low : is_less u (mk m) ≡ true = ap (λ x. is_less x (mk m)) e ∙ s.ranked.less c m ∙ lt_true c m (over_cut s.least c) in
    record { held = mk m; value = found.0; inside = and_from (is_less u (mk m)) (is_less (mk m) w) low found.1 }
span_holder {kind} {mk} s zs (Above u) shape has =
    let c = shape.0 in
    let e = shape.1 in
    let m = int_max s.least (c +ℤ pos 1) in
    let found = next_holder s c (λ v. true) (ap (λ x. option_map_or (λ v. true) (next x) false) (sym e) ∙ has) in
    record { held = mk m; value = found.0; inside = ap (λ x. is_less x (mk m)) e ∙ s.ranked.less c m ∙ lt_true c m (over_cut s.least c) }
span_holder s zs (Other names) shape has = absurd shape
span_holder {kind} {mk} s zs Every shape has = record { held = mk s.least; value = s.value s.least (omega (arith, ints)) s.some; inside = refl }

spanned_holder : {kind : Kind} {mk : ℤ → Value} → Spanned kind mk → (lits : List Value) (r : Region) → Among r (stretches kind (sort_values (filter (has_kind kind) lits))) → has_value r ≡ true → Holder kind r
spanned_holder {kind} {mk} s lits r at has =
    let cuts = s.cuts lits in
    let all : Among r (regions_of_order (map mk cuts.numbers)) = subst (λ cs. Among r (regions_of_order cs)) cuts.made (subst (λ rs. Among r rs) (s.stretch (sort_values (filter (has_kind kind) lits))) at) in
    span_holder s cuts.numbers r (each_at (Shape mk cuts.numbers) (regions_of_order (map mk cuts.numbers)) r (shapes mk cuts.numbers) all) has

-- a text that is longer than all named texts together
together : List Value → ℕ
together [] = 0
together (Text t ∷ vs) = length t + together vs
together (Number a ∷ vs) = together vs
together (Flag b ∷ vs) = together vs
together (Day d ∷ vs) = together vs

longer_is_none : (names : List Value) (f : List ℕ) → together names < length f → list_any (λ name. is_equal (Text f) name) names ≡ false
unfolding together
longer_is_none [] f long = refl
longer_is_none (Text t ∷ names) f long =
    or_from (is_equal (Text f) (Text t)) (list_any (λ name. is_equal (Text f) name) names)
    (false_from_ne_true (is_equal (Text f) (Text t)) (λ e. let same = ap length ((bytes_decides f t).0 e) in absurd (omega (arith, same, long))))
    (longer_is_none names f (omega (arith, long)))
longer_is_none (Number a ∷ names) f long = longer_is_none names f long
longer_is_none (Flag b ∷ names) f long = longer_is_none names f long
longer_is_none (Day d ∷ names) f long = longer_is_none names f long

other_holder : (names : List Value) → Holder kinds.Text (Other names)
other_holder names =
    let f = replicate (suc (together names)) 120 in
    let long : together names < length f = let size = length-replicate {A = ℕ} (suc (together names)) 120 in omega (arith, size) in
    record { held = Text f; value = refl; inside = ap not (longer_is_none names f long) }

-- each named value is a text
named_text : (lits : List Value) (u : Value) → Among u (sort_values (filter (has_kind kinds.Text) lits)) → is_value kinds.Text u ≡ true
named_text lits u at = text_value u (among_passes (has_kind kinds.Text) u lits (rising_only (filter (has_kind kinds.Text) lits) u at)) where
  text_value : (v : Value) → has_kind kinds.Text v ≡ true → is_value kinds.Text v ≡ true
  text_value (Number a) e = e
  text_value (Text a) e = refl
  text_value (Flag a) e = e
  text_value (Day a) e = e

among_name : (r : Region) (cs : List Value) → Among r (map At cs) → (u : Value) × (At u ≡ r) × Among u cs
among_name r [] at = absurd at
among_name r (c ∷ cs) (inl e) = (c, e, inl refl)
among_name r (c ∷ cs) (inr at) = let more = among_name r cs at in (more.0, more.1, inr more.2)

text_holder : (lits cuts : List Value) → cuts ≡ sort_values (filter (has_kind kinds.Text) lits) → (r : Region) → Among r (regions_of_names cuts) → Holder kinds.Text r
text_holder lits [] cuts_are r (inl e) = subst (λ x. Holder kinds.Text x) e (record { held = Text []; value = refl; inside = refl })
text_holder lits [] cuts_are r (inr none) = absurd none
text_holder lits (c ∷ cs) cuts_are r at =
    elim (among_split r (map At (c ∷ cs)) (Other (c ∷ cs) ∷ []) at) [
      | inl one ↦
          (let name = among_name r (c ∷ cs) one in
          subst (λ x. Holder kinds.Text x) name.1 (record { held = name.0; value = named_text lits name.0 (subst (λ xs. Among name.0 xs) cuts_are name.2); inside = equal_itself name.0 }))
      | inr rest ↦ (elim rest [ inl e ↦ subst (λ x. Holder kinds.Text x) e (other_holder (c ∷ cs)) | inr none ↦ absurd none ])
    ]

pub holder : (kind : Kind) (lits : List Value) (r : Region) → Among r (stretches kind (sort_values (filter (has_kind kind) lits))) → has_value r ≡ true → Holder kind r
holder kinds.Number lits r at has = spanned_holder number_spanned lits r at has
holder kinds.Day lits r at has = spanned_holder day_spanned lits r at has
holder kinds.Text lits r at has = text_holder lits (sort_values (filter (has_kind kinds.Text) lits)) refl r at
holder kinds.Flag lits r (inl e) has = subst (λ x. Holder kinds.Flag x) e (record { held = Flag false; value = refl; inside = refl })
holder kinds.Flag lits r (inr (inl e)) has = subst (λ x. Holder kinds.Flag x) e (record { held = Flag true; value = refl; inside = refl })
holder kinds.Flag lits r (inr (inr none)) has = absurd none

-- an allowed value of a listed region
pub record AllowedHolder (column : Column) (r : Region) : Type 0 where
  pub held : Value
  pub allowed : is_allowed column held ≡ true
  pub inside : is_in r held ≡ true

allowed_by : (kind : Kind) (lits : List Value) (values : Option Cell) → ((l : Value) → Among l (option_map_or literals values []) → Among l lits) → (r : Region) → Among r (stretches kind (sort_values (filter (has_kind kind) lits)))
    → (h : Holder kind r) → option_map_or (λ cell. holds_in cell r) values true ≡ true → option_map_or (λ cell. holds cell h.held) values true ≡ true
allowed_by kind lits None inside r at h e = refl
allowed_by kind lits (Some cell) inside r at h e = sym ((located kind lits r at h.held (value_kind kind h.held h.value) h.value h.inside).asked cell inside) ∙ e

pub allowed_holder : (p : PlanParts) (t : Table) (place : ℕ) (input : Input) (r : Region) → Among r (regions (column_of p t place input)) → AllowedHolder (column_of p t place input) r
allowed_holder p t place input r at =
    let kind = kind_read p input.origin in
    let lits = column_literals t place input.values in
    let all = stretches kind (column_of p t place input).cuts in
    let there = among_unfilter (is_listed input.values) r all at in
    let listed = and_parts (has_value r) (option_map_or (λ cell. holds_in cell r) input.values true) (among_passes (is_listed input.values) r all at) in
    let h = holder kind lits r there listed.0 in
    record {
      held = h.held;
      allowed = and_from (is_value kind h.held) (option_map_or (λ cell. holds cell h.held) input.values true) h.value
          (allowed_by kind lits input.values (λ l l_at. among_right l (flat_map (rule_literals place) t.rules) (option_map_or literals input.values []) l_at) r there h listed.1);
      inside = h.inside;
    }

pub regions_hold_values : RegionsHoldValues
regions_hold_values p t place column found r at =
    let of_input = column_at p t 0 t.inputs place column found in
    let zero_place : 0 + place ≡ place = omega arith in
    let same : column ≡ column_of p t place of_input.0 = sym of_input.1 ∙ ap (λ k. column_of p t k of_input.0) zero_place in
    let h = allowed_holder p t place of_input.0 r (subst (λ c. Among r (regions c)) same (among_contained (regions column) r at)) in
    (h.held, subst (λ c. is_allowed c h.held ≡ true) (sym same) h.allowed, h.inside)
