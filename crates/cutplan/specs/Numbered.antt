-- The check of a table by the table's number in the plan, from 1.
use Rattle.std.specs.Prelude.{◌≡◌, ℕ, ◌-◌, ◌≤◌, ◌<◌, List, [], length, slice_get}
use Rattle.std.specs.Option.{option_map_or}
use Rattle.tables.specs.Plan.{PlanParts}
use Rattle.cutplan.specs.declared.fault.CheckFault.{CheckFault}
use Rattle.cutplan.specs.declared.fault.CheckFault.TheVariants.{TooWide}
use Rattle.regions.specs.declared.region.Region.{Region}
use Rattle.regions.specs.Regions.{table_regions}
use Rattle.cutplan.specs.Check.{cells, gaps, overlaps}

-- the greatest number of cells in a check
abbrev pub cell_limit : ℕ
cell_limit = 65536

-- the plan has a table of this number
abbrev pub IsTableNumber : PlanParts → ℕ → Type 0
IsTableNumber p number = (1 ≤ number) × (number ≤ length p.tables)

-- the cells of the table's check
abbrev pub cells_of : PlanParts → ℕ → List (List Region)
cells_of p number = option_map_or (λ t. cells (table_regions p t)) (slice_get p.tables (number - 1)) []

-- the cells of the table's check that no rule covers
abbrev pub gaps_of : PlanParts → ℕ → List (List Region)
gaps_of p number = option_map_or (gaps p) (slice_get p.tables (number - 1)) []

-- the pairs of the table's rules that share an allowed tuple
abbrev pub overlaps_of : PlanParts → ℕ → List (ℕ × ℕ)
overlaps_of p number = option_map_or (overlaps p) (slice_get p.tables (number - 1)) []

-- the check fails as too wide only if it has more cells than the limit
abbrev pub IsWide : ℕ → CheckFault → Type 0
IsWide count fault = fault ≡ TooWide → cell_limit < count
