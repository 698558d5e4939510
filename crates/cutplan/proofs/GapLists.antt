-- An allowed tuple is a gap if and only if its cell is listed.
use Rattle.std.proofs.Common.{◌≡◌, ℕ, zero, suc, ◌+◌, ◌⊎◌, inl, inr, ◌&&◌, ◌||◌, Bool, true, false, not, cond, List, [], ◌∷◌, ◌++◌, drop, map, filter, Option, Some, None, refl, ap, sym, ◌∙◌, add-one, arith}
use Rattle.std.specs.Prelude.{count_by}
use Rattle.std.specs.List.{flat_map, list_any, slice_get}
use Rattle.std.specs.Option.{option_map_or}
use Rattle.std.proofs.lemmas.Bool.{both_ways, and_parts, and_from, or_parts, true_from_ne_false}
use Rattle.std.proofs.lemmas.List.Folds.{list_any-append}
use Rattle.feel_tests.specs.Holds.{holds}
use Rattle.feel_tests.specs.declared.cell.Cell.{Cell}
use Rattle.feel_tests.specs.declared.value.Value.{Value}
use Rattle.tables.specs.declared.table.Input.{Input}
use Rattle.tables.specs.declared.table.Rule.{Rule}
use Rattle.tables.specs.declared.table.Table.{Table}
use Rattle.tables.specs.Plan.{PlanParts}
use Rattle.regions.specs.declared.region.Region.{Region}
use Rattle.regions.specs.Values.{is_value, kind_read}
use Rattle.regions.specs.Regions.{columns, columns_from, column_of, column_literals, rule_literals, literals, regions, stretches, is_listed, is_allowed, is_in, holds_in, table_regions}
use Rattle.cutplan.specs.Check.{is_allowed_tuple, fits, lies_in, cells, covers, gaps}
use Rattle.cutplan.specs.Laws.{ReportsGaps}
use Rattle.cutplan.proofs.Alike.{Among, among_left}
use Rattle.cutplan.proofs.Ordered.{count_no}
use Rattle.cutplan.proofs.Covering.{covers_from}
use Rattle.cutplan.proofs.ColumnWise.{among_unfilter, literal_of_rule, value_kind}
use Rattle.cutplan.proofs.OpenRegions.{located}
use Rattle.cutplan.proofs.Parting.{part_of_column}

-- an element that is counted once exists
pub found_once : {X : Type 0} (p : X → Bool) (xs : List X) → count_by p xs ≡ 1 → list_any p xs ≡ true
found_once p xs e = true_from_ne_false (list_any p xs) (λ none. let zero_of = count_none p xs none in absurd (omega (arith, e, zero_of))) where
  count_none : {X : Type 0} (p : X → Bool) (xs : List X) → list_any p xs ≡ false → count_by p xs ≡ 0
  count_none p [] none = refl
  count_none p (x ∷ xs) none = let parts = or_parts (p x) (list_any p xs) none in count_no p x xs 0 parts.0 (count_none p xs parts.1)

-- which cells that begin with a region contain a tuple
any_in_front : (r : Region) (v : Value) (vs : List Value) (cs : List (List Region)) → list_any (λ cell. lies_in cell (v ∷ vs)) (map (λ cell. r ∷ cell) cs) ≡ (is_in r v && list_any (λ cell. lies_in cell vs) cs)
any_in_front r v vs [] =
    elim (is_in r v) as (λ b. false ≡ (b && false)) [
      | true ↦ refl
      | false ↦ refl
    ]
any_in_front r v vs (c ∷ cs) =
    ap (λ rest. (is_in r v && lies_in c vs) || rest) (any_in_front r v vs cs) ∙ joined (is_in r v) (lies_in c vs) (list_any (λ cell. lies_in cell vs) cs) where
      joined : (a b c : Bool) → ((a && b) || (a && c)) ≡ (a && (b || c))
      joined true b c = refl
      joined false b c = refl

any_put : (rs : List Region) (v : Value) (vs : List Value) (cs : List (List Region))
    → list_any (λ cell. lies_in cell (v ∷ vs)) (flat_map (λ r. map (λ cell. r ∷ cell) cs) rs) ≡ (list_any (λ r. is_in r v) rs && list_any (λ cell. lies_in cell vs) cs)
any_put [] v vs cs = refl
any_put (r ∷ rs) v vs cs =
    list_any-append (λ cell. lies_in cell (v ∷ vs)) (map (λ cell. r ∷ cell) cs) (flat_map (λ x. map (λ cell. x ∷ cell) cs) rs)
    ∙ ap (λ b. b || list_any (λ cell. lies_in cell (v ∷ vs)) (flat_map (λ x. map (λ cell. x ∷ cell) cs) rs)) (any_in_front r v vs cs)
    ∙ ap (λ b. (is_in r v && list_any (λ cell. lies_in cell vs) cs) || b) (any_put rs v vs cs)
    ∙ joined (is_in r v) (list_any (λ x. is_in x v) rs) (list_any (λ cell. lies_in cell vs) cs) where
      joined : (a b c : Bool) → ((a && c) || (b && c)) ≡ ((a || b) && c)
      joined true true true = refl
      joined true true false = refl
      joined true false true = refl
      joined true false false = refl
      joined false b c = refl

-- an allowed tuple lies in some cell
has_cell : (p : PlanParts) (t : Table) (k : ℕ) (inputs : List Input) (vs : List Value) → is_allowed_tuple (columns_from p t k inputs) vs ≡ true → list_any (λ cell. lies_in cell vs) (cells (map regions (columns_from p t k inputs))) ≡ true
has_cell p t k [] [] e = refl
has_cell p t k [] (v ∷ vs) e = absurd (both_ways false refl e)
has_cell p t k (i ∷ is) [] e = absurd (both_ways false refl e)
has_cell p t k (i ∷ is) (v ∷ vs) e =
    let parts = and_parts (is_allowed (column_of p t k i) v) (is_allowed_tuple (columns_from p t (k + 1) is) vs) e in
    any_put (regions (column_of p t k i)) v vs (cells (map regions (columns_from p t (k + 1) is)))
    ∙ and_from (list_any (λ r. is_in r v) (regions (column_of p t k i))) (list_any (λ cell. lies_in cell vs) (cells (map regions (columns_from p t (k + 1) is))))
    (found_once (λ r. is_in r v) (regions (column_of p t k i)) (part_of_column p t k i v parts.0)) (has_cell p t (k + 1) is vs parts.1)

-- a rule fits a tuple from a column on, value by value
pub fits_from : (rule : List Cell) (column : ℕ) (v : Value) (vs : List Value) → fits (drop column rule) (v ∷ vs) ≡ (option_map_or (λ c. holds c v) (slice_get rule column) true && fits (drop (suc column) rule) vs)
fits_from [] zero v vs = refl
fits_from [] (suc column) v vs = refl
fits_from (c ∷ cs) zero v vs = refl
fits_from (c ∷ cs) (suc column) v vs = fits_from cs column v vs

pub fits_none : (rule : List Cell) → fits rule [] ≡ true
fits_none [] = refl
fits_none (c ∷ cs) = refl

covers_none : (rule : List Cell) → covers rule [] ≡ true
covers_none [] = refl
covers_none (c ∷ cs) = refl

-- the first region of a cell and its other regions
pub among_front : (x : List Region) (rs : List Region) (cs : List (List Region)) → Among x (flat_map (λ r. map (λ cell. r ∷ cell) cs) rs) → (r : Region) × (rest : List Region) × (r ∷ rest ≡ x) × Among r rs × Among rest cs
among_front x [] cs at = absurd at
among_front x (r ∷ rs) cs at =
    elim (split (map (λ cell. r ∷ cell) cs) (flat_map (λ y. map (λ cell. y ∷ cell) cs) rs) at) [
      | inl here ↦ (let found = inner cs here in (r, found.0, found.1, inl refl, found.2))
      | inr there ↦ (let found = among_front x rs cs there in (found.0, found.1, found.2, inr found.3, found.4))
    ] where
      split : (xs ys : List (List Region)) → Among x (xs ++ ys) → Among x xs ⊎ Among x ys
      split [] ys at = inr at
      split (z ∷ zs) ys (inl e) = inl (inl e)
      split (z ∷ zs) ys (inr at) = elim (split zs ys at) [ inl here ↦ inl (inr here) | inr there ↦ inr there ]

      inner : (cells : List (List Region)) → Among x (map (λ cell. r ∷ cell) cells) → (rest : List Region) × (r ∷ rest ≡ x) × Among rest cells
      inner [] at = absurd at
      inner (c ∷ cs) (inl e) = (c, e, inl refl)
      inner (c ∷ cs) (inr at) = let more = inner cs at in (more.0, more.1, inr more.2)

-- a rule's cell holds in a region as for each value there
pub asks_alike : (p : PlanParts) (t : Table) (k : ℕ) (i : Input) (rule : Rule) (r : Region) (v : Value) → Among rule t.rules → Among r (regions (column_of p t k i)) → is_allowed (column_of p t k i) v ≡ true → is_in r v ≡ true
    → option_map_or (λ c. holds_in c r) (slice_get rule.cells k) true ≡ option_map_or (λ c. holds c v) (slice_get rule.cells k) true
asks_alike p t k i rule r v at r_at allowed in_v = by_cell (slice_get rule.cells k) refl where
  by_cell : (found : Option Cell) → slice_get rule.cells k ≡ found → option_map_or (λ c. holds_in c r) found true ≡ option_map_or (λ c. holds c v) found true
  by_cell None e = refl
  by_cell (Some cell) e =
      let kind = kind_read p i.origin in
      let parts = and_parts (is_value kind v) (option_map_or (λ c. holds c v) i.values true) allowed in
      let all = among_unfilter (is_listed i.values) r (stretches kind (column_of p t k i).cuts) r_at in
      (located kind (column_literals t k i.values) r all v (value_kind kind v parts.0) parts.0 in_v).asked cell
      (λ l l_at. among_left l (flat_map (rule_literals k) t.rules) (option_map_or literals i.values []) (literal_of_rule t.rules k rule cell l at e l_at))

-- a rule covers the cell of a tuple if and only if it fits the tuple
covers_alike : (p : PlanParts) (t : Table) (k : ℕ) (inputs : List Input) (rule : Rule) (cell : List Region) (vs : List Value) → Among rule t.rules → Among cell (cells (map regions (columns_from p t k inputs)))
    → is_allowed_tuple (columns_from p t k inputs) vs ≡ true → lies_in cell vs ≡ true → covers (drop k rule.cells) cell ≡ fits (drop k rule.cells) vs
covers_alike p t k [] rule cell [] at (inl e) allowed lies = ap (covers (drop k rule.cells)) (sym e) ∙ covers_none (drop k rule.cells) ∙ sym (fits_none (drop k rule.cells))
covers_alike p t k [] rule cell [] at (inr none) allowed lies = absurd none
covers_alike p t k [] rule cell (v ∷ vs) at cell_at allowed lies = absurd (both_ways false refl allowed)
covers_alike p t k (i ∷ is) rule cell [] at cell_at allowed lies = absurd (both_ways false refl allowed)
covers_alike p t k (i ∷ is) rule cell (v ∷ vs) at cell_at allowed lies =
    let front = among_front cell (regions (column_of p t k i)) (cells (map regions (columns_from p t (k + 1) is))) cell_at in
    let r = front.0 in
    let rest = front.1 in
    let parts = and_parts (is_allowed (column_of p t k i) v) (is_allowed_tuple (columns_from p t (k + 1) is) vs) allowed in
    let there = and_parts (is_in r v) (lies_in rest vs) (ap (λ c. lies_in c (v ∷ vs)) front.2 ∙ lies) in
    let more = covers_alike p t (k + 1) is rule rest vs at front.4 parts.1 there.1 in
    let next = ap (λ n. covers (drop n rule.cells) rest) (sym (add-one k)) ∙ more ∙ ap (λ n. fits (drop n rule.cells) vs) (add-one k) in
    ap (covers (drop k rule.cells)) (sym front.2) ∙ covers_from rule.cells k r rest
    ∙ ap (λ b. b && covers (drop (suc k) rule.cells) rest) (asks_alike p t k i rule r v at front.3 parts.0 there.0)
    ∙ ap (λ b. option_map_or (λ c. holds c v) (slice_get rule.cells k) true && b) next
    ∙ sym (fits_from rule.cells k v vs)

-- tests that agree on the elements of a list give the same result for it
any_alike : {X : Type 0} (f g : X → Bool) (xs : List X) → ((x : X) → Among x xs → f x ≡ g x) → list_any f xs ≡ list_any g xs
any_alike f g [] agree = refl
any_alike f g (x ∷ xs) agree = ap (λ b. b || list_any f xs) (agree x (inl refl)) ∙ ap (λ b. g x || b) (any_alike f g xs (λ y at. agree y (inr at)))

-- a filter that gives the same result for all elements that pass a test
any_filtered : {X : Type 0} (test keep : X → Bool) (b : Bool) (xs : List X) → ((x : X) → Among x xs → test x ≡ true → keep x ≡ b) → list_any test (filter keep xs) ≡ (b && list_any test xs)
any_filtered test keep true [] agree = refl
any_filtered test keep false [] agree = refl
any_filtered test keep b (x ∷ xs) agree =
    let rest = any_filtered test keep b xs (λ y at e. agree y (inr at) e) in
    elim (test x) as (λ h. test x ≡ h → list_any test (cond (keep x) (x ∷ filter keep xs) (filter keep xs)) ≡ (b && (h || list_any test xs))) [
      | true ↦ λ e. ap (λ h. list_any test (cond h (x ∷ filter keep xs) (filter keep xs))) (agree x (inl refl) e) ∙ found b e rest
      | false ↦ λ e. missed (keep x) e ∙ rest
    ] refl where
      found : (b : Bool) → test x ≡ true → list_any test (filter keep xs) ≡ (b && list_any test xs) → list_any test (cond b (x ∷ filter keep xs) (filter keep xs)) ≡ (b && true)
      found true e rest = ap (λ h. h || list_any test (filter keep xs)) e
      found false e rest = rest

      missed : (h : Bool) → test x ≡ false → list_any test (cond h (x ∷ filter keep xs) (filter keep xs)) ≡ list_any test (filter keep xs)
      missed true e = ap (λ h. h || list_any test (filter keep xs)) e
      missed false e = refl

and_true : (b : Bool) → (b && true) ≡ b
and_true true = refl
and_true false = refl

-- whether an allowed tuple's cell is listed
listed_is : (p : PlanParts) (t : Table) (tuple : List Value) → is_allowed_tuple (columns p t) tuple ≡ true → list_any (λ cell. lies_in cell tuple) (gaps p t) ≡ not (list_any (λ r. fits r.cells tuple) t.rules)
listed_is p t tuple allowed =
    any_filtered (λ cell. lies_in cell tuple) (λ cell. not (list_any (λ r. covers r.cells cell) t.rules)) (not (list_any (λ r. fits r.cells tuple) t.rules)) (cells (table_regions p t))
    (λ cell at lies. ap not (any_alike (λ r. covers r.cells cell) (λ r. fits r.cells tuple) t.rules (λ rule rule_at. covers_alike p t 0 t.inputs rule cell tuple rule_at at allowed lies)))
    ∙ ap (λ b. not (list_any (λ r. fits r.cells tuple) t.rules) && b) (has_cell p t 0 t.inputs tuple allowed)
    ∙ and_true (not (list_any (λ r. fits r.cells tuple) t.rules))

pub not_so : (b : Bool) → not b ≡ true → b ≡ false
not_so true e = sym e
not_so false e = refl

pub tells_gaps : (p : PlanParts) (t : Table) → ReportsGaps p t (gaps p t)
tells_gaps p t tuple allowed =
    let here = listed_is p t tuple allowed in
    (λ gap. here ∙ ap not gap.unmatched, λ found. record { allowed = allowed; unmatched = not_so (list_any (λ r. fits r.cells tuple) t.rules) (sym here ∙ found) })
