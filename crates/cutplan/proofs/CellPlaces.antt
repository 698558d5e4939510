-- The cell at an index: its region in the first column, and the rest of it.
use Rattle.std.proofs.Common.{◌≡◌, ℕ, zero, suc, ◌+◌, ◌-◌, ◌*◌, ◌/◌, ◌%◌, ◌≤◌, ◌<◌, Bool, inl, inr, List, [], ◌∷◌, ◌++◌, length, get_or, map, filter, min, Some, refl, ap, ap₂, sym, ◌∙◌, subst, length-append, arith}
use Rattle.std.specs.List.{All, flat_map, slice_get}
use Rattle.std.proofs.lemmas.Bool.{cases_lt}
use Rattle.std.proofs.lemmas.List.{length-map}
use Rattle.std.proofs.lemmas.Nat.{div-mul-add, mod-mul-add}
use Rattle.std.proofs.lemmas.Option.{none-some, same_Some, get_or_from_slice_get}
use Rattle.cutplan.specs.declared.compiled_column.CompiledColumn.{CompiledColumn}
use Rattle.regions.specs.declared.region.Region.{Region}
use Rattle.cutplan.specs.Check.{cells}
use Rattle.cutplan.specs.CompiledColumns.{regions_kept}
use Rattle.cutplan.specs.Numbered.{cell_limit}
use Rattle.cutplan.specs.Places.{places}
use Rattle.cutplan.proofs.Between.{index_within}
use Rattle.cutplan.proofs.Overlapping.{at_or}
use Rattle.cutplan.proofs.Places.{items_at}

-- the index of a cell, from the index of its region in the first column and the index of its rest
-- among the cells of the other columns
pub record IsPlaced (regions : List Region) (rest : List (List Region)) (n : ℕ) (cell : List Region) : Type 0 where
  pub place : ℕ
  pub region : Region
  pub following : ℕ
  pub more : List Region
  pub place_is : n ≡ place * length rest + following
  pub below : following < length rest
  pub few : length rest ≤ length (flat_map (λ (r : Region). map (λ (c : List Region). r ∷ c) rest) regions)
  pub present : slice_get regions place ≡ Some region
  pub others : slice_get rest following ≡ Some more
  pub cell_is : cell ≡ region ∷ more

slice_left : {X : Type 0} (xs ys : List X) (n : ℕ) → n < length xs → slice_get (xs ++ ys) n ≡ slice_get xs n
slice_left [] ys n below = absurd (omega (arith, below))
slice_left (x ∷ xs) ys zero below = refl
slice_left (x ∷ xs) ys (suc n) below = slice_left xs ys n (omega (arith, below))

slice_right : {X : Type 0} (xs ys : List X) (n : ℕ) → slice_get (xs ++ ys) (length xs + n) ≡ slice_get ys n
slice_right [] ys n = let here : 0 + n ≡ n = omega arith in ap (slice_get ys) here
slice_right (x ∷ xs) ys n = let next : suc (length xs) + n ≡ suc (length xs + n) = omega arith in ap (slice_get (x ∷ (xs ++ ys))) next ∙ slice_right xs ys n

slice_mapped : {X Y : Type 0} (f : X → Y) (xs : List X) (n : ℕ) (y : Y) → slice_get (map f xs) n ≡ Some y → (x : X) × (slice_get xs n ≡ Some x) × (y ≡ f x)
slice_mapped f [] n y at = absurd (none-some y at)
slice_mapped f (x ∷ xs) zero y at = (x, refl, sym (same_Some (f x) y at))
slice_mapped f (x ∷ xs) (suc n) y at = slice_mapped f xs n y at

-- each cell of a column before others has such an index
pub placed : (regions : List Region) (rest : List (List Region)) (n : ℕ) (cell : List Region) → slice_get (flat_map (λ (r : Region). map (λ (c : List Region). r ∷ c) rest) regions) n ≡ Some cell → IsPlaced regions rest n cell
placed [] rest n cell at = absurd (none-some cell at)
placed (r ∷ rs) rest n cell at =
    let front = map (λ (c : List Region). r ∷ c) rest in
    let back = flat_map (λ (x : Region). map (λ (c : List Region). x ∷ c) rest) rs in
    let long : length front ≡ length rest = length-map rest (λ (c : List Region). r ∷ c) in
    let joined = length-append front back in
    elim (cases_lt n (length rest)) [
      | inl less ↦ (let found = slice_mapped (λ (c : List Region). r ∷ c) rest n cell (sym (slice_left front back n (omega (arith, less, long))) ∙ at) in record {
        place = 0;
        region = r;
        following = n;
        more = found.0;
        place_is = omega arith;
        below = less;
        few = omega (arith, long, joined);
        present = refl;
        others = found.1;
        cell_is = found.2;
      })
      | inr most ↦ (
          let left : n ≡ length front + (n - length rest) = omega (arith, most, long) in
          let found = placed rs rest (n - length rest) cell (sym (slice_right front back (n - length rest)) ∙ ap (slice_get (front ++ back)) (sym left) ∙ at) in
          record {
            place = suc found.place;
            region = found.region;
            following = found.following;
            more = found.more;
            place_is = next_place n (length rest) found.place found.following most found.place_is;
            below = found.below;
            few = omega (arith, long, joined);
            present = found.present;
            others = found.others;
            cell_is = found.cell_is;
          }
          )
    ]
  where
    next_place : (n k place following : ℕ) → k ≤ n → n - k ≡ place * k + following → n ≡ suc place * k + following
    next_place n k place following most is = omega (arith, most, is)

-- the cell at an index, where `following` is the number of cells of the other columns
pub record CellAt (regions : List Region) (more : List (List Region)) (n following : ℕ) : Type 0 where
  pub some : 0 < following
  pub first : n / following < length regions
  pub narrow : length (cells more) ≤ cell_limit
  pub rest : n % following < length (cells more)
  pub cell : (d : Region) → get_or (cells (regions ∷ more)) n [] ≡ get_or regions (n / following) d ∷ get_or (cells more) (n % following) []

pub cell_at : (regions : List Region) (more : List (List Region)) (n following : ℕ) → length (cells (regions ∷ more)) ≤ cell_limit → n < length (cells (regions ∷ more)) → following ≡ min (length (cells more)) (cell_limit + 1)
    → CellAt regions more n following
cell_at regions more n following narrow within is =
    let all = cells (regions ∷ more) in
    let p = placed regions (cells more) n (get_or all n []) (at_or all n [] within) in
    let k : ℕ = length (cells more) in
    let some = p.below in
    let few = p.few in
    let kept : min k (cell_limit + 1) ≡ k = omega (arith, few, narrow) in
    let same : following ≡ k = is ∙ kept in
    let quotient : n / following ≡ p.place = ap₂ (λ a b. a / b) p.place_is same ∙ div-mul-add p.place k p.following some in
    let rest : n % following ≡ p.following = ap₂ (λ a b. a % b) p.place_is same ∙ mod-mul-add p.place k p.following some in
    record {
      some = omega (arith, same, some);
      first = subst (λ q. q < length regions) (sym quotient) (index_within regions p.place p.region p.present);
      narrow = omega (arith, few, narrow);
      rest = subst (λ q. q < k) (sym rest) some;
      cell = λ d.
          p.cell_is
          ∙ ap₂ (λ r c. r ∷ c) (sym (ap (λ q. get_or regions q d) quotient ∙ get_or_from_slice_get regions p.place p.region d p.present))
          (sym (ap (λ q. get_or (cells more) q []) rest ∙ get_or_from_slice_get (cells more) p.following p.more [] p.others));
    }

pub kept_cell_at : (columns : List CompiledColumn) (column : CompiledColumn) (more : List CompiledColumn) (n following : ℕ) → columns ≡ column ∷ more → length (cells (regions_kept columns)) ≤ cell_limit → n < length (cells (regions_kept columns))
    → following ≡ min (length (cells (regions_kept more))) (cell_limit + 1) → CellAt column.partition.regions.items (regions_kept more) n following
kept_cell_at columns column more n following split narrow within is =
    cell_at column.partition.regions.items (regions_kept more) n following (subst (λ cs. length (cells (regions_kept cs)) ≤ cell_limit) split narrow) (subst (λ cs. n < length (cells (regions_kept cs))) split within) is

-- the items that are found at indices
found_items : {X : Type 0} (xs : List (List X)) (indices : List ℕ) (items : List (List X)) → map (slice_get xs) indices ≡ map (λ x. Some x) items → map (λ n. get_or xs n []) indices ≡ items
found_items xs [] [] e = refl
found_items xs [] (y ∷ ys) e = absurd cc
found_items xs (n ∷ ns) [] e = absurd cc
found_items xs (n ∷ ns) (y ∷ ys) e =
    let here : slice_get xs n ≡ Some y = cc in
    let there : map (slice_get xs) ns ≡ map (λ x. Some x) ys = cc in
    ap₂ (λ a b. a ∷ b) (get_or_from_slice_get xs n y [] here) (found_items xs ns ys there)

found_within : {X : Type 0} (xs : List (List X)) (indices : List ℕ) (items : List (List X)) → map (slice_get xs) indices ≡ map (λ x. Some x) items → All (λ n. n < length xs) indices
found_within xs [] items e = λ i d below. absurd (omega (arith, below))
found_within xs (n ∷ ns) [] e = absurd cc
found_within {X} xs (n ∷ ns) (y ∷ ys) e =
    let here : slice_get xs n ≡ Some y = cc in
    let there : map (slice_get xs) ns ≡ map (λ x. Some x) ys = cc in
    at (index_within xs n y here) (found_within xs ns ys there) where
      at : n < length xs → All (λ k. k < length xs) ns → (i d : ℕ) → i < length (n ∷ ns) → get_or (n ∷ ns) i d < length xs
      at first others zero d below = first
      at first others (suc i) d below = others i d (omega (arith, below))

-- the cells at the indices that pass a test are those that pass it
pub cells_at_places : (test : List Region → Bool) (xs : List (List Region)) → map (λ n. get_or xs n []) (places test 0 xs) ≡ filter test xs
cells_at_places test xs = found_items xs (places test 0 xs) (filter test xs) (items_at test [] xs)

pub places_within : (test : List Region → Bool) (xs : List (List Region)) → All (λ n. n < length xs) (places test 0 xs)
places_within test xs = found_within xs (places test 0 xs) (filter test xs) (items_at test [] xs)
