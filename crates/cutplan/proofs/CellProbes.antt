-- The mask of a region, from the rules' cells of its column.
use Rattle.std.proofs.Common.{◌≡◌, ℕ, zero, suc, ◌+◌, ◌<◌, ◌≤◌, ◌==◌, ◌&&◌, ◌||◌, inl, inr, Bool, true, false, List, [], ◌∷◌, length, get_or, map, Option, refl, ap, sym, ◌∙◌, arith}
use Rattle.std.specs.Prelude.{nat_lt}
use Rattle.std.specs.List.{slice_get}
use Rattle.std.specs.Option.{option_map_or}
use Rattle.std.proofs.lemmas.Bool.{cases_lt, lt-ltb, le-ltb, eq-eqb, ne_eqb}
use Rattle.feel_tests.specs.declared.cell.Cell.{Cell}
use Rattle.tables.specs.declared.table.Rule.{Rule}
use Rattle.tables.specs.declared.table.Table.{Table}
use Rattle.regions.specs.declared.region.Region.{Region}
use Rattle.regions.specs.Regions.{holds_in}
use Rattle.cutplan.specs.Masks.{has_rule, is_marked, AreMasks, Marks}
use Rattle.cutplan.specs.CheckSteps.{cell_holds_in, column_cells, holds_among, AreMasksBy}

-- the cell at an index is among the cells
pub among_at : (cells : List (Option Cell)) (region : Region) (place : ℕ) (cell : Option Cell) → place < length cells → cell ≡ get_or cells place cell → holds_among cells region place ≡ cell_holds_in cell region
among_at [] region place cell below is = absurd (omega (arith, below))
among_at (c ∷ cs) region zero cell below is = ap (λ x. cell_holds_in x region) (sym is)
among_at (c ∷ cs) region (suc n) cell below is = among_at cs region n cell (omega (arith, below)) is

-- a test of the first indices, extended by one more
one_more : (H : ℕ → Bool) (place other : ℕ) → ((nat_lt other place && H other) || (H place && (other == place))) ≡ (nat_lt other (place + 1) && H other)
one_more H place other = elim (cases_lt other place) [
  | inl less ↦
      ap (λ b. (b && H other) || (H place && (other == place))) (lt-ltb other place less) ∙ ap (λ b. H other || (H place && b)) (ne_eqb other place (λ e. omega (arith, less, e)))
      ∙ or_none (H other) (H place) ∙ sym (ap (λ b. b && H other) (lt-ltb other (place + 1) (omega (arith, less))))
  | inr most ↦ ap (λ b. (b && H other) || (H place && (other == place))) (le-ltb other place most) ∙ (elim (cases_lt place other) [
    | inl above ↦
        ap (λ b. H place && b) (ne_eqb other place (λ e. omega (arith, above, e))) ∙ and_none (H place) ∙ sym (ap (λ b. b && H other) (le-ltb other (place + 1) (omega (arith, above))))
    | inr least ↦
        (let same : other ≡ place = omega (arith, most, least) in
        ap (λ b. H place && b) (eq-eqb other place same) ∙ and_all (H place) ∙ ap H (sym same) ∙ sym (ap (λ b. b && H other) (lt-ltb other (place + 1) (omega (arith, least)))))
  ])
] where
  or_none : (a b : Bool) → (a || (b && false)) ≡ a
  or_none true b = refl
  or_none false true = refl
  or_none false false = refl

  and_none : (a : Bool) → (a && false) ≡ false
  and_none true = refl
  and_none false = refl

  and_all : (a : Bool) → (a && true) ≡ a
  and_all true = refl
  and_all false = refl

-- the rules of a mask among the first ones, and the same with one more rule
abbrev pub HasFirst : List ℕ → ℕ → (ℕ → Bool) → Type 0
HasFirst mask count H = (place : ℕ) → place < 256 → has_rule mask place ≡ (nat_lt place count && H place)

pub has_more : (mask new : List ℕ) (count : ℕ) (H : ℕ → Bool) (holds : Bool) → HasFirst mask count H → holds ≡ H count
    → ((other : ℕ) → other < 256 → has_rule new other ≡ (has_rule mask other || (holds && (other == count)))) → HasFirst new (count + 1) H
has_more mask new count H holds all is put place within =
    put place within ∙ ap (λ b. b || (holds && (place == count))) (all place within) ∙ ap (λ b. (nat_lt place count && H place) || (b && (place == count))) is ∙ one_more H count place

none_after : (cells : List (Option Cell)) (region : Region) (place : ℕ) → length cells ≤ place → holds_among cells region place ≡ false
none_after [] region place above = refl
none_after (c ∷ cs) region zero above = absurd (omega (arith, above))
none_after (c ∷ cs) region (suc n) above = none_after cs region n (omega (arith, above))

-- the mask of all rules
pub has_all : (mask : List ℕ) (count : ℕ) (cells : List (Option Cell)) (region : Region) → length cells ≤ count → length mask ≡ 4 → HasFirst mask count (holds_among cells region) → Marks (holds_among cells region) mask
has_all mask count cells region end words all = record {
  words = words;
  has = λ place within. all place within ∙ (elim (cases_lt place count) [
    | inl less ↦ ap (λ b. b && holds_among cells region place) (lt-ltb place count less)
    | inr most ↦ ap (λ b. b && holds_among cells region place) (le-ltb place count most) ∙ sym (none_after cells region place (omega (arith, end, most)))
  ]);
}

next_lt : (n m : ℕ) → nat_lt (suc n) (suc m) ≡ nat_lt n m
next_lt n m = elim (cases_lt n m) [
  | inl less ↦ lt-ltb (suc n) (suc m) (omega (arith, less)) ∙ sym (lt-ltb n m less)
  | inr most ↦ le-ltb (suc n) (suc m) (omega (arith, most)) ∙ sym (le-ltb n m most)
]

-- the cells of a column are those of the table's rules
marked_is : (rules : List Rule) (column : ℕ) (region : Region) (place : ℕ)
    → option_map_or (λ cell. cell_holds_in cell region) (slice_get (map (λ r. slice_get r.cells column) rules) place) false
    ≡ (nat_lt place (length rules) && option_map_or (λ c. holds_in c region) (slice_get (option_map_or (λ r. r.cells) (slice_get rules place) []) column) true)
marked_is [] column region zero = refl
marked_is [] column region (suc n) = sym (ap (λ b. b && true) (le-ltb (suc n) 0 (omega arith)))
marked_is (r ∷ rs) column region zero = sym (ap (λ b. b && cell_holds_in (slice_get r.cells column) region) (lt-ltb 0 (suc (length rs)) (omega arith)))
marked_is (r ∷ rs) column region (suc n) =
    marked_is rs column region n ∙ sym (ap (λ b. b && option_map_or (λ c. holds_in c region) (slice_get (option_map_or (λ x. x.cells) (slice_get rs n) []) column) true) (next_lt n (length rs)))

pub marks_of : (t : Table) (column : ℕ) (region : Region) (cells : List (Option Cell)) (mask : List ℕ) → cells ≡ column_cells t column → Marks (holds_among cells region) mask → Marks (is_marked t column region) mask
marks_of t column region cells mask is marks = record {
  words = marks.words;
  has = λ place within. marks.has place within ∙ ap (λ cs. holds_among cs region place) is ∙ marked_is t.rules column region place;
}

pub masks_of : (t : Table) (column : ℕ) (cells : List (Option Cell)) (regions : List Region) (masks : List (List ℕ)) → cells ≡ column_cells t column → AreMasksBy cells regions masks → AreMasks t column regions masks
masks_of t column cells [] [] is all = all
masks_of t column cells [] (m ∷ ms) is all = all
masks_of t column cells (r ∷ rs) [] is all = all
masks_of t column cells (r ∷ rs) (m ∷ ms) is all = (marks_of t column r cells m is all.0, masks_of t column cells rs ms is all.1)
