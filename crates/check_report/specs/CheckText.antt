-- What the command `check` prints for a plan's text. Tables and rules are numbered from 1.
use Rattle.std.specs.Prelude.{◌≡◌, ℕ, ◌++◌, Bool, if◌then◌else◌, List, [], ◌∷◌, length, codes, decimal, flat_map, nat_lt}
use Rattle.std.specs.List.{join_by, range_with_len, sum_by}
use Rattle.feel_tests.specs.Value.{literal_text}
use Rattle.tables.specs.Plan.{PlanParts}
use Rattle.dtable.specs.PlanFile.{IsPlanText}
use Rattle.regions.specs.declared.region.Region.{Region}
use Rattle.regions.specs.declared.region.Region.TheVariants.{Below, At, Between, Above, Other, Every}
use Rattle.cutplan.specs.Numbered.{cell_limit, cells_of, gaps_of, overlaps_of}
use Rattle.evaluation.specs.ValueText.{line_end}

-- the text of a region: `<a`, `a`, `]a..b[` or `>b`; `not("A","B")` for all other texts; `-` for all values of a column
abbrev pub region_text : Region → List ℕ
region_text (Below cut) = codes "<" ++ literal_text cut
region_text (At value) = literal_text value
region_text (Between low high) = codes "]" ++ (literal_text low ++ (codes ".." ++ (literal_text high ++ codes "[")))
region_text (Above cut) = codes ">" ++ literal_text cut
region_text (Other names) = codes "not(" ++ (join_by literal_text (codes ",") names ++ codes ")")
region_text Every = codes "-"

-- the text `: rules I J` with its line end
abbrev pub rules_text : ℕ × ℕ → List ℕ
rules_text rules = codes ": rules " ++ (decimal rules.0 ++ (codes " " ++ (decimal rules.1 ++ line_end ∷ [])))

-- the line `overlap table T: rules I J`
abbrev pub overlap_line : ℕ → ℕ × ℕ → List ℕ
overlap_line table rules = codes "overlap table " ++ (decimal table ++ rules_text rules)

-- the line `gap table T: ` with the region of each column, separated by ` ; `
abbrev pub gap_line : ℕ → List Region → List ℕ
gap_line table cell = codes "gap table " ++ (decimal table ++ (codes ": " ++ (join_by region_text (codes " ; ") cell ++ line_end ∷ [])))

-- the line `wide table T`
abbrev pub wide_line : ℕ → List ℕ
wide_line table = codes "wide table " ++ (decimal table ++ line_end ∷ [])

-- the check of the table has more cells than the limit
abbrev pub is_wide : PlanParts → ℕ → Bool
is_wide plan table = nat_lt cell_limit (length (cells_of plan table))

-- the reported gaps of a table; a wide table has none
abbrev pub reported_gaps : PlanParts → ℕ → List (List Region)
reported_gaps plan table = if is_wide plan table then [] else gaps_of plan table

-- the line of a wide table, or no line for another table
abbrev pub wide_lines : PlanParts → ℕ → List ℕ
wide_lines plan table = if is_wide plan table then wide_line table else []

-- the lines of a table: its overlaps in order, and then its gaps in order or the line of a wide table
abbrev pub check_table_lines : PlanParts → ℕ → List ℕ
check_table_lines plan table = flat_map (overlap_line table) (overlaps_of plan table) ++ (wide_lines plan table ++ flat_map (gap_line table) (reported_gaps plan table))

-- the numbers of the first `count` tables
abbrev pub table_numbers : ℕ → List ℕ
table_numbers count = range_with_len 1 count

-- the number of reported gaps of these tables
abbrev pub gap_count : PlanParts → List ℕ → ℕ
gap_count plan tables = sum_by (λ table. length (reported_gaps plan table)) tables

-- the number of overlaps of these tables
abbrev pub overlap_count : PlanParts → List ℕ → ℕ
overlap_count plan tables = sum_by (λ table. length (overlaps_of plan table)) tables

-- the line `gaps G overlaps O`
abbrev pub counts_line : ℕ → ℕ → List ℕ
counts_line gaps overlaps = codes "gaps " ++ (decimal gaps ++ (codes " overlaps " ++ (decimal overlaps ++ line_end ∷ [])))

-- the text that `check` prints for a plan: the lines of each table, and then the counts
abbrev pub check_text : PlanParts → List ℕ
check_text plan =
    let tables = table_numbers (length plan.tables) in
    flat_map (check_table_lines plan) tables ++ counts_line (gap_count plan tables) (overlap_count plan tables)

-- the text is the one that `check` prints for the plan that the plan's text denotes
pub record IsCheckText (plan_text : List ℕ) (text : List ℕ) : Type 0 where
  pub plan : PlanParts
  pub spelled : IsPlanText plan_text plan
  pub lines : text ≡ check_text plan
