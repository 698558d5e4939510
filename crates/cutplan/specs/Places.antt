-- The gaps of a table as indices among the cells of its check. Cells are numbered from 0 here, and
-- tables from 1.
use Rattle.std.specs.Prelude.{◌≡◌, ℕ, ◌-◌, ◌≤◌, ◌<◌, Bool, true, not, List, [], length, map, filter, Option, Some, None, slice_get}
use Rattle.std.specs.Global.{Vec}
use Rattle.std.specs.List.{list_any, enumerate_from}
use Rattle.std.specs.Option.{option_map_or}
use Rattle.tables.specs.declared.table.Table.{Table}
use Rattle.tables.specs.Plan.{PlanParts}
use Rattle.regions.specs.declared.region.Region.{Region}
use Rattle.cutplan.specs.Check.{covers}
use Rattle.cutplan.specs.Numbered.{cell_limit, cells_of, gaps_of}
use Rattle.regions.specs.Regions.{table_regions}

-- the indices of the items that pass a test, where the first item has the index `first`
abbrev pub places : {X : Type 0} → (X → Bool) → ℕ → List X → List ℕ
places {X} test first xs = map (λ (p : ℕ × X). p.0) (filter (λ (p : ℕ × X). test p.1) (enumerate_from first xs))

-- no rule of the table covers the cell
abbrev pub is_gap : Table → List Region → Bool
is_gap t cell = not (list_any (λ r. covers r.cells cell) t.rules)

-- no rule of the table of this number covers the cell
abbrev pub is_gap_of : PlanParts → ℕ → List Region → Bool
is_gap_of p number cell = option_map_or (λ t. is_gap t cell) (slice_get p.tables (number - 1)) true

-- the regions of each column of the table of this number
abbrev pub regions_of : PlanParts → ℕ → List (List Region)
regions_of p number = option_map_or (table_regions p) (slice_get p.tables (number - 1)) []

-- the indices of the cells that pass the test, or nothing if there are more cells than the limit
abbrev pub ArePlaces : List (List Region) → (List Region → Bool) → Option (Vec ℕ) → Type 0
ArePlaces cells test (Some found) = (length cells ≤ cell_limit) × (found.items ≡ places test 0 cells)
ArePlaces cells test None = cell_limit < length cells

-- the cells at the indices that pass the test are the gaps, in order
abbrev pub PlacesAreGaps : Type 0
PlacesAreGaps = (p : PlanParts) (number : ℕ) → map (slice_get (cells_of p number)) (places (is_gap_of p number) 0 (cells_of p number)) ≡ map Some (gaps_of p number)
