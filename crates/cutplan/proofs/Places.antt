-- The indices of the cells that pass a test, region by region.
use Rattle.std.proofs.Common.{◌≡◌, ℕ, zero, suc, ◌+◌, ◌-◌, ◌≤◌, ◌<◌, Bool, true, false, cond, eqb, List, [], ◌∷◌, ◌++◌, length, get_or, take, drop, map, filter, Option, Some, None, refl, ap, sym, ◌∙◌, append_assoc, length-append, take-append-drop, arith}
use Rattle.std.specs.List.{flat_map, enumerate_from, range_with_len, slice_get}
use Rattle.std.specs.Option.{option_map_or}
use Rattle.std.proofs.lemmas.List.{length-map}
use Rattle.std.proofs.lemmas.List.Concat.{flat_map-append}
use Rattle.tables.specs.declared.table.Table.{Table}
use Rattle.regions.specs.declared.region.Region.{Region}
use Rattle.cutplan.specs.Check.{cells, gaps}
use Rattle.cutplan.specs.CheckSteps.{alive_in, uncovered}
use Rattle.cutplan.specs.Places.{is_gap, places, PlacesAreGaps}
use Rattle.regions.specs.Regions.{table_regions}
use Rattle.cutplan.proofs.Covering.{gap_is, uncovered_end, uncovered_step}
use Rattle.cutplan.proofs.Compiling.{at_number}
use Rattle.cutplan.proofs.Steps.{flat_more}

-- the index of the first item, followed by those of the others
pub places-cons : {X : Type 0} (test : X → Bool) (k : ℕ) (x : X) (xs : List X) → places test k (x ∷ xs) ≡ cond (test x) (k ∷ places test (k + 1) xs) (places test (k + 1) xs)
places-cons {X} test k x xs =
    elim (test x) as (λ b. map (λ (p : ℕ × X). p.0) (cond b (at_number k x ∷ filter (λ (p : ℕ × X). test p.1) (enumerate_from (k + 1) xs)) (filter (λ (p : ℕ × X). test p.1) (enumerate_from (k + 1) xs)))
    ≡ cond b (k ∷ places test (k + 1) xs) (places test (k + 1) xs)) [
      | true ↦ refl
      | false ↦ refl
    ]

-- the indices for two concatenated lists
places-append : {X : Type 0} (test : X → Bool) (k : ℕ) (xs ys : List X) → places test k (xs ++ ys) ≡ places test k xs ++ places test (k + length xs) ys
places-append test k [] ys = let here : k ≡ k + 0 = omega arith in ap (λ n. places test n ys) here
places-append test k (x ∷ xs) ys =
    let there : (k + 1) + length xs ≡ k + suc (length xs) = omega arith in
    let more = places-append test (k + 1) xs ys ∙ ap (λ n. places test (k + 1) xs ++ places test n ys) there in
    let last = places test (k + suc (length xs)) ys in
    places-cons test k x (xs ++ ys)
    ∙ (elim (test x) as (λ b. cond b (k ∷ places test (k + 1) (xs ++ ys)) (places test (k + 1) (xs ++ ys)) ≡ cond b (k ∷ places test (k + 1) xs) (places test (k + 1) xs) ++ last) [
      | true ↦ ap (λ rest. k ∷ rest) more
      | false ↦ more
    ])
    ∙ ap (λ front. front ++ last) (sym (places-cons test k x xs))

-- the indices for a mapped list, by a test that agrees with the mapped one
places-map : {X Y : Type 0} (f : X → Y) (test : Y → Bool) (alike : X → Bool) → ((x : X) → test (f x) ≡ alike x) → (k : ℕ) (xs : List X) → places test k (map f xs) ≡ places alike k xs
places-map f test alike agree k [] = refl
places-map f test alike agree k (x ∷ xs) =
    let more = places-map f test alike agree (k + 1) xs in
    places-cons test k (f x) (map f xs) ∙ ap (λ b. cond b (k ∷ places test (k + 1) (map f xs)) (places test (k + 1) (map f xs))) (agree x)
    ∙ ap (λ rest. cond (alike x) (k ∷ rest) rest) more ∙ sym (places-cons alike k x xs)

-- the cells that begin with a region
abbrev pub cells_with : List (List Region) → Region → List (List Region)
cells_with more x = map (λ cell. x ∷ cell) (cells more)

-- the cells, extended by one region
pub cells_more : (regions : List Region) (more : List (List Region)) (i : ℕ) (d : Region) → i < length regions
    → length (flat_map (cells_with more) (take (i + 1) regions)) ≡ length (flat_map (cells_with more) (take i regions)) + length (cells more)
cells_more regions more i d below =
    let put = cells_with more in
    let one = length-map (cells more) (λ (cell : List Region). get_or regions i d ∷ cell) in
    ap length (flat_more put regions i d below) ∙ length-append (flat_map put (take i regions)) (put (get_or regions i d)) ∙ ap (λ n. length (flat_map put (take i regions)) + n) one

-- the first regions have at most as many cells as all regions
pub cells_within : (regions : List Region) (more : List (List Region)) (n : ℕ) → length (flat_map (cells_with more) (take n regions)) ≤ length (cells (regions ∷ more))
cells_within regions more n =
    let put = cells_with more in
    let whole = ap (λ rs. length (flat_map put rs)) (take-append-drop n regions) in
    let split = ap length (flat_map-append put (take n regions) (drop n regions)) in
    omega (arith, whole, split, length-append (flat_map put (take n regions)) (flat_map put (drop n regions)))

-- the indices of the uncovered cells, extended by one region
pub places_more : (t : Table) (column : ℕ) (rules : List ℕ) (regions : List Region) (more : List (List Region)) (i k : ℕ) (d : Region) → i < length regions
    → places (uncovered t column rules) k (flat_map (cells_with more) (take (i + 1) regions))
    ≡ places (uncovered t column rules) k (flat_map (cells_with more) (take i regions))
    ++ places (uncovered t (column + 1) (alive_in t column (get_or regions i d) rules)) (k + length (flat_map (cells_with more) (take i regions))) (cells more)
places_more t column rules regions more i k d below =
    let put = cells_with more in
    let r = get_or regions i d in
    let front = flat_map put (take i regions) in
    ap (places (uncovered t column rules) k) (flat_more put regions i d below)
    ∙ places-append (uncovered t column rules) k front (put r)
    ∙ ap (λ last. places (uncovered t column rules) k front ++ last)
    (places-map (λ (cell : List Region). r ∷ cell) (uncovered t column rules) (uncovered t (column + 1) (alive_in t column r rules)) (λ cell. uncovered_step t column rules r cell) (k + length front) (cells more))

-- the element at an index does not depend on the default
pub got_alike : {X : Type 0} (xs : List X) (i : ℕ) (d e : X) → i < length xs → get_or xs i d ≡ get_or xs i e
got_alike [] i d e below = absurd (omega (arith, below))
got_alike (x ∷ xs) zero d e below = refl
got_alike (x ∷ xs) (suc i) d e below = got_alike xs i d e (omega (arith, below))

-- the indices of the cell without regions
pub end_places : (t : Table) (column : ℕ) (rules : List ℕ) (k : ℕ) (columns : List (List Region)) → length columns ≡ 0 → places (uncovered t column rules) k (cells columns) ≡ cond (eqb (length rules) 0) (k ∷ []) []
end_places t column rules k [] e = places-cons (uncovered t column rules) k [] [] ∙ ap (λ b. cond b (k ∷ []) []) (uncovered_end t column rules)
end_places t column rules k (c ∷ cs) e = absurd (omega (arith, e))

pub end_count : (columns : List (List Region)) → length columns ≡ 0 → length (cells columns) ≡ 1
end_count [] e = refl
end_count (c ∷ cs) e = absurd (omega (arith, e))

-- two tests that agree give the same indices
places-alike : {X : Type 0} (p q : X → Bool) → ((x : X) → p x ≡ q x) → (k : ℕ) (xs : List X) → places p k xs ≡ places q k xs
places-alike p q agree k [] = refl
places-alike p q agree k (x ∷ xs) =
    places-cons p k x xs ∙ ap (λ b. cond b (k ∷ places p (k + 1) xs) (places p (k + 1) xs)) (agree x) ∙ ap (λ rest. cond (q x) (k ∷ rest) rest) (places-alike p q agree (k + 1) xs)
    ∙ sym (places-cons q k x xs)

-- the indices of the gaps are those of the cells that all rules leave uncovered from the first
-- column on
pub gap_places_are : (t : Table) (columns : List (List Region)) → places (uncovered t 0 (range_with_len 0 (length t.rules))) 0 (cells columns) ≡ places (is_gap t) 0 (cells columns)
gap_places_are t columns = places-alike (uncovered t 0 (range_with_len 0 (length t.rules))) (is_gap t) (λ cell. gap_is t cell) 0 (cells columns)

at_length : {X : Type 0} (front : List X) (x : X) (xs : List X) → slice_get (front ++ x ∷ xs) (length front) ≡ Some x
at_length [] x xs = refl
at_length (y ∷ ys) x xs = at_length ys x xs

-- the items at the indices that pass a test are those that pass it
pub items_at : {X : Type 0} (test : X → Bool) (front xs : List X) → map (slice_get (front ++ xs)) (places test (length front) xs) ≡ map (λ x. Some x) (filter test xs)
items_at test front [] = refl
items_at {X} test front (x ∷ xs) =
    let k : ℕ = length front in
    let all = front ++ x ∷ xs in
    let next : length (front ++ x ∷ []) ≡ k + 1 = length-append front (x ∷ []) in
    let rest : map (slice_get all) (places test (k + 1) xs) ≡ map (λ y. Some y) (filter test xs) =
    ap (λ n. map (slice_get all) (places test n xs)) (sym next) ∙ ap (λ ys. map (slice_get ys) (places test (length (front ++ x ∷ [])) xs)) (sym (append_assoc front (x ∷ []) xs)) ∙ items_at test (front ++ x ∷ []) xs in
    ap (map (slice_get all)) (places-cons test k x xs)
    ∙ (elim (test x) as (λ b. map (slice_get all) (cond b (k ∷ places test (k + 1) xs) (places test (k + 1) xs)) ≡ map (λ (y : X). Some y) (cond b (x ∷ filter test xs) (filter test xs))) [
      | true ↦ ap (λ found. found ∷ map (slice_get all) (places test (k + 1) xs)) (at_length front x xs) ∙ ap (λ found. Some x ∷ found) rest
      | false ↦ rest
    ])

pub places_are_gaps : PlacesAreGaps
places_are_gaps p number = by_table (slice_get p.tables (number - 1)) where
  by_table : (found : Option Table)
      → map (slice_get (option_map_or (λ t. cells (table_regions p t)) found [])) (places (λ cell. option_map_or (λ t. is_gap t cell) found true) 0 (option_map_or (λ t. cells (table_regions p t)) found []))
      ≡ map (λ cell. Some cell) (option_map_or (gaps p) found [])
  by_table None = refl
  by_table (Some t) = items_at (is_gap t) [] (cells (table_regions p t))
