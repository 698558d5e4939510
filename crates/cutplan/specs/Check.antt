-- The gaps and overlaps of a table, and the cells of its check. Rules are numbered from 1.
use Rattle.std.specs.Prelude.{◌≡◌, ℕ, ◌+◌, ◌-◌, Bool, true, false, not, ◌&&◌, List, [], ◌∷◌, length, map, filter, flat_map, slice_get, IsTrue}
use Rattle.std.specs.List.{list_any, list_all, zip, range_with_len, enumerate_from}
use Rattle.std.specs.Option.{option_map_or}
use Rattle.feel_tests.specs.Holds.{holds}
use Rattle.feel_tests.specs.declared.cell.Cell.{Cell}
use Rattle.feel_tests.specs.declared.value.Value.{Value}
use Rattle.tables.specs.declared.table.Table.{Table}
use Rattle.tables.specs.Plan.{PlanParts}
use Rattle.regions.specs.declared.region.Region.{Region}
use Rattle.regions.specs.Regions.{Column, columns, is_allowed, is_in, holds_in, table_regions}

-- each value of the tuple is allowed in its column
abbrev pub is_allowed_tuple : List Column → List Value → Bool
is_allowed_tuple [] [] = true
is_allowed_tuple (c ∷ cs) (v ∷ vs) = is_allowed c v && is_allowed_tuple cs vs
is_allowed_tuple _ _ = false

-- each of the rule's cells holds for its value
abbrev pub fits : List Cell → List Value → Bool
fits cells tuple = list_all (λ p. holds p.0 p.1) (zip cells tuple)

-- the cells of the rule at an index, from 0
abbrev pub rule_cells : Table → ℕ → List Cell
rule_cells t place = option_map_or (λ r. r.cells) (slice_get t.rules place) []

-- the tuple is allowed, and no rule matches it
pub record IsGap (p : PlanParts) (t : Table) (tuple : List Value) : Type 0 where
  pub allowed : IsTrue (is_allowed_tuple (columns p t) tuple)
  pub unmatched : list_any (λ r. fits r.cells tuple) t.rules ≡ false

-- some allowed tuple is matched by both rules
pub record IsOverlap (p : PlanParts) (t : Table) (pair : ℕ × ℕ) : Type 0 where
  pub tuple : List Value
  pub allowed : IsTrue (is_allowed_tuple (columns p t) tuple)
  pub first : IsTrue (fits (rule_cells t (pair.0 - 1)) tuple)
  pub second : IsTrue (fits (rule_cells t (pair.1 - 1)) tuple)

-- each value of the tuple lies in its region
abbrev pub lies_in : List Region → List Value → Bool
lies_in [] [] = true
lies_in (r ∷ rs) (v ∷ vs) = is_in r v && lies_in rs vs
lies_in _ _ = false

-- the cells of the check: all tuples of regions, one for each column, with the last column changing
-- fastest
abbrev pub cells : List (List Region) → List (List Region)
cells [] = [] ∷ []
cells (regions ∷ more) = flat_map (λ r. map (λ cell. r ∷ cell) (cells more)) regions

-- each of the rule's cells holds in its region
abbrev pub covers : List Cell → List Region → Bool
covers rule cell = list_all (λ p. holds_in p.0 p.1) (zip rule cell)

-- the cells of the check that no rule covers, in order
abbrev pub gaps : PlanParts → Table → List (List Region)
gaps p t = filter (λ cell. not (list_any (λ r. covers r.cells cell) t.rules)) (cells (table_regions p t))

-- the pairs of the rule `first` with each later one of n rules
abbrev pub pairs_with : ℕ → ℕ → List (ℕ × ℕ)
pairs_with n first = map (λ second. (first, second)) (range_with_len (first + 1) (n - first))

-- all pairs of n rules, the smaller number first, in order
abbrev pub pairs : ℕ → List (ℕ × ℕ)
pairs n = flat_map (pairs_with n) (range_with_len 1 n)

-- the rule's cell in the column holds in the region; a missing cell holds everywhere
abbrev pub holds_at : Table → ℕ → ℕ → Region → Bool
holds_at t place column region = option_map_or (λ cell. holds_in cell region) (slice_get (rule_cells t place) column) true

-- both rules hold in some region of the column
abbrev pub meet_in : Table → ℕ → ℕ → ℕ → List Region → Bool
meet_in t first second column regions = list_any (λ r. holds_at t first column r && holds_at t second column r) regions

-- both rules hold in some region of every column
abbrev pub meet : List (List Region) → Table → ℕ → ℕ → Bool
meet regions t first second = list_all (λ c. meet_in t first second c.0 c.1) (enumerate_from 0 regions)

-- the pairs of rules that share an allowed tuple, in order
abbrev pub overlaps : PlanParts → Table → List (ℕ × ℕ)
overlaps p t = filter (λ pair. meet (table_regions p t) t (pair.0 - 1) (pair.1 - 1)) (pairs (length t.rules))
