-- The region of other texts: the meaning of a binary search in the named texts, which are in
-- increasing order.
use Rattle.std.proofs.Common.{◌≡◌, ℕ, zero, suc, ◌+◌, ◌<◌, ◌≤◌, ◌||◌, ◌⊎◌, inl, inr, Bool, true, false, List, [], ◌∷◌, ◌++◌, length, get_or, map, filter, Contains, refl, ap, sym, ◌∙◌, subst, arith}
use Rattle.std.specs.Prelude.{nat_lt, Result, Ok, Err}
use Rattle.std.specs.List.{list_any}
use Rattle.std.specs.List.Sorted.{IsBinarySearchResult, IsSearchInRange}
use Rattle.std.specs.Ordering.{nat_cmp, is_lt, is_eq, ordering_reverse}
use Rattle.std.specs.declared.cmp.Ordering.{Ordering}
use Rattle.std.specs.declared.cmp.Ordering.TheVariants.{Less, Equal, Greater}
use Rattle.std.specs.Cmp.Lexicographic.{slice_cmp, nat_list_cmp_total, texts_ties}
use Rattle.std.proofs.lemmas.List.Sorted.{searchable_from_sorted}
use Rattle.feel_tests.specs.Holds.{is_equal}
use Rattle.feel_tests.specs.declared.kind.Kind.{Kind}
use Rattle.feel_tests.specs.declared.kind.Kind.TheVariants as kinds
use Rattle.feel_tests.specs.declared.value.Value.{Value}
use Rattle.feel_tests.specs.declared.value.Value.TheVariants.{Text, Flag}
use Rattle.tables.specs.declared.table.Table.{Table}
use Rattle.tables.specs.Plan.{has_kind}
use Rattle.cutplan.specs.declared.compiled_column.CompiledColumn.{CompiledColumn}
use Rattle.regions.specs.declared.region.Region.{Region}
use Rattle.regions.specs.declared.region.Region.TheVariants.{At, Other}
use Rattle.regions.specs.Values.{is_before, kind_read, sort_values}
use Rattle.regions.specs.Regions.{column_literals, from_cut, regions_of_order, regions_of_names, stretches, is_listed}
use Rattle.cutplan.specs.Matching.{bytes_of, AreRisingTexts, OthersRise}
use Rattle.cutplan.specs.CompiledColumns.{AreKept}
use Rattle.cutplan.proofs.Alike.{Among}
use Rattle.cutplan.proofs.ByMasks.{found_at, input_at}
use Rattle.cutplan.proofs.ColumnWise.{among_contained, among_unfilter}
use Rattle.cutplan.proofs.CutLists.{rising_only}
use Rattle.cutplan.proofs.CutOrder.{Rises, cuts_of_kind, rises_at, is_less_so}
use Rattle.cutplan.proofs.Holding.{among_passes}
use Rattle.cutplan.proofs.Overlapping.{among_place, any_at, at_or, contained_among}
use Rattle.cutplan.proofs.Regionwise.{text_is}

-- two texts are equal if and only if their comparison says so
equal_text : (text : List ℕ) (name : Value) → has_kind kinds.Text name ≡ true → is_equal (Text text) name ≡ is_eq (slice_cmp nat_cmp (bytes_of name) text)
equal_text text name kind =
    let is = text_is name kind in
    let bytes = is.0 in
    ap (is_equal (Text text)) is.1 ∙ texts_ties text bytes ∙ ap is_eq (nat_list_cmp_total.antisymm text bytes) ∙ turned (slice_cmp nat_cmp bytes text)
    ∙ ap (λ v. is_eq (slice_cmp nat_cmp (bytes_of v) text)) (sym is.1) where
      turned : (o : Ordering) → is_eq (ordering_reverse o) ≡ is_eq o
      turned Less = refl
      turned Equal = refl
      turned Greater = refl

none_any : {X : Type 0} (q : X → Bool) (xs : List X) → ((x : X) → Among x xs → q x ≡ false) → list_any q xs ≡ false
none_any q [] none = refl
none_any q (x ∷ xs) none = ap (λ b. b || list_any q xs) (none x (inl refl)) ∙ none_any q xs (λ y at. none y (inr at))

-- each element has an index
place_in : {X : Type 0} (xs : List X) (x : X) → Among x xs → (n : ℕ) × (n < length xs) × ((d : X) → get_or xs n d ≡ x)
place_in [] x at = absurd at
place_in (y ∷ ys) x (inl e) = (0, omega arith, λ d. e)
place_in (y ∷ ys) x (inr at) = let more = place_in ys x at in (suc more.0, omega (arith, more.1), more.2)

-- the search succeeded
abbrev pub has_found : Result ℕ ℕ → Bool
has_found (Ok place) = true
has_found (Err place) = false

-- a binary search in increasing texts succeeds if and only if the text is among them
pub text_searched : (names : List Value) (text : List ℕ) (r : Result ℕ ℕ) → AreRisingTexts names → IsSearchInRange r (length names) → IsBinarySearchResult (λ name. slice_cmp nat_cmp (bytes_of name) text) names r
    → has_found r ≡ list_any (λ name. is_equal (Text text) name) names
text_searched names text (Ok place) rise within found =
    let name = get_or names place (Flag true) in
    let at : Among name names = among_place names place name (at_or names place (Flag true) within) in
    sym (any_at (λ name. is_equal (Text text) name) names name at (equal_text text name (rise.texts name (contained_among names name at)) ∙ ap is_eq (found (Flag true))))
text_searched names text (Err place) rise within found =
    let parts = found (searchable_from_sorted nat_list_cmp_total bytes_of names text rise.rise) in
    sym (none_any (λ name. is_equal (Text text) name) names
    (λ name at.
    let there = place_in names name at in
    equal_text text name (rise.texts name (contained_among names name at)) ∙ ap (λ v. is_eq (slice_cmp nat_cmp (bytes_of v) text)) (sym (there.2 (Flag true))) ∙ apart parts.0 parts.1 there.0 there.1)) where
      side : (a b : ℕ) → (a < b) ⊎ (b ≤ a)
      side a zero = inr (omega arith)
      side zero (suc b) = inl (omega arith)
      side (suc a) (suc b) = elim (side a b) [
        | inl less ↦ inl (omega (arith, less))
        | inr more ↦ inr (omega (arith, more))
      ]

      apart : ((k : ℕ) (d : Value) → 0 ≤ k → k < place → slice_cmp nat_cmp (bytes_of (get_or names k d)) text ≡ Less)
          → ((k : ℕ) (d : Value) → place ≤ k → k < length names → slice_cmp nat_cmp (bytes_of (get_or names k d)) text ≡ Greater)
          → (k : ℕ) → k < length names → is_eq (slice_cmp nat_cmp (bytes_of (get_or names k (Flag true))) text) ≡ false
      apart low high k below = elim (side k place) [
        | inl less ↦ ap is_eq (low k (Flag true) (omega arith) less)
        | inr more ↦ ap is_eq (high k (Flag true) more below)
      ]

-- increasing texts are sorted by their bytes
rising_texts : (names : List Value) → Rises names → ((name : Value) → Among name names → has_kind kinds.Text name ≡ true) → AreRisingTexts names
rising_texts names rises texts = record { texts = λ name has. texts name (among_contained names name has); rise = λ k d low high. by_two k d high } where
  by_two : (k : ℕ) (d : Value) → k + 1 < length names → is_lt (slice_cmp nat_cmp (bytes_of (get_or names (k + 1) d)) (bytes_of (get_or names k d))) ≡ false
  by_two k d high =
      let one = get_or names k d in
      let other = get_or names (k + 1) d in
      let one_at = at_or names k d (omega (arith, high)) in
      let other_at = at_or names (k + 1) d high in
      let a = text_is one (texts one (among_place names k one one_at)) in
      let b = text_is other (texts other (among_place names (k + 1) other other_at)) in
      let before = rises_at names k (k + 1) one other rises (omega arith) one_at other_at in
      let less : is_lt (slice_cmp nat_cmp a.0 b.0) ≡ true = sym (ap (λ v. is_before v other) a.1 ∙ ap (λ w. is_before (Text a.0) w) b.1) ∙ before in
      ap (λ v. is_lt (slice_cmp nat_cmp (bytes_of v) (bytes_of one))) b.1 ∙ ap (λ v. is_lt (slice_cmp nat_cmp b.0 (bytes_of v))) a.1
      ∙ ap is_lt (nat_list_cmp_total.antisymm b.0 a.0 ∙ ap ordering_reverse (is_less_so (slice_cmp nat_cmp a.0 b.0) less))

-- no region of numbers or days is a region of other texts
no_other_from : (low : Value) (more names : List Value) → Among (Other names) (from_cut low more) → ⊥
no_other_from low [] names (inl e) = absurd cc
no_other_from low [] names (inr (inl e)) = absurd cc
no_other_from low [] names (inr (inr none)) = none
no_other_from low (high ∷ more) names (inl e) = absurd cc
no_other_from low (high ∷ more) names (inr (inl e)) = absurd cc
no_other_from low (high ∷ more) names (inr (inr at)) = no_other_from high more names at

no_other_ordered : (cuts names : List Value) → Among (Other names) (regions_of_order cuts) → ⊥
no_other_ordered [] names (inl e) = absurd cc
no_other_ordered [] names (inr none) = none
no_other_ordered (c ∷ cs) names (inl e) = absurd cc
no_other_ordered (c ∷ cs) names (inr at) = no_other_from c cs names at

-- the region of other texts excludes exactly the cuts
other_named : (cuts all names : List Value) → Among (Other names) (map At cuts ++ Other all ∷ []) → all ≡ names
other_named [] all names (inl e) = cc
other_named [] all names (inr none) = absurd none
other_named (c ∷ cs) all names (inl e) = absurd cc
other_named (c ∷ cs) all names (inr at) = other_named cs all names at

other_in_named : (cuts names : List Value) → Among (Other names) (regions_of_names cuts) → cuts ≡ names
other_in_named [] names (inl e) = absurd cc
other_in_named [] names (inr none) = absurd none
other_in_named (c ∷ cs) names at = other_named (c ∷ cs) (c ∷ cs) names at

-- if a column has a region of other texts, its cuts are increasing
pub others_of : (kind : Kind) (lits names : List Value) → Among (Other names) (stretches kind (sort_values (filter (has_kind kind) lits))) → AreRisingTexts names
others_of kinds.Number lits names at = absurd (no_other_ordered (sort_values (filter (has_kind kinds.Number) lits)) names at)
others_of kinds.Day lits names at = absurd (no_other_ordered (sort_values (filter (has_kind kinds.Day) lits)) names at)
others_of kinds.Flag lits names (inl e) = absurd cc
others_of kinds.Flag lits names (inr (inl e)) = absurd cc
others_of kinds.Flag lits names (inr (inr none)) = absurd none
others_of kinds.Text lits names at =
    let cuts = sort_values (filter (has_kind kinds.Text) lits) in
    subst AreRisingTexts (other_in_named cuts names at)
    (rising_texts cuts (cuts_of_kind kinds.Text lits) (λ name there. among_passes (has_kind kinds.Text) name lits (rising_only (filter (has_kind kinds.Text) lits) name there)))

-- the region at an index is one of the regions
pub other_at : (regions : List Region) (place : ℕ) (r : Region) (names : List Value) → true ≡ nat_lt place (length regions) → r ≡ get_or regions place r → r ≡ Other names → Contains regions (Other names)
other_at regions place r names below is other = contained_among regions (Other names) (subst (λ x. Among x regions) other (among_place regions place r (found_at regions place r below is)))

-- this holds for each compiled column
pub column_others : (t : Table) (kept : List CompiledColumn) (i : ℕ) (column : CompiledColumn) → AreKept t kept → i < length kept → column ≡ get_or kept i column → OthersRise column.partition.regions.items
column_others t kept i column all below is names has =
    let p = all.plan in
    let found = input_at p t kept i column all.columns below is in
    let input = found.0 in
    let there = subst (λ xs. Among (Other names) xs) found.2.partition.listed (among_contained column.partition.regions.items (Other names) has) in
    let kind = kind_read p input.origin in
    let lits = column_literals t i input.values in
    others_of kind lits names (among_unfilter (is_listed input.values) (Other names) (stretches kind (sort_values (filter (has_kind kind) lits))) there)
