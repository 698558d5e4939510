-- What the command `check` prints for a plan's text if it reports only the gaps and overlaps that are errors under the table's hit policy.
use Rattle.std.specs.Prelude.{◌≡◌, ℕ, ◌++◌, ◌&&◌, if◌then◌else◌, List, [], length, filter, flat_map}
use Rattle.std.specs.List.{sum_by}
use Rattle.tables.specs.Plan.{PlanParts}
use Rattle.dtable.specs.PlanFile.{IsPlanText}
use Rattle.regions.specs.declared.region.Region.{Region}
use Rattle.cutplan.specs.Numbered.{overlaps_of}
use Rattle.cutplan.specs.Violations.{gap_is_error, overlap_is_error}
use Rattle.check_report.specs.CheckText.{counts_line, gap_line, is_wide, overlap_line, table_numbers, reported_gaps, wide_line}

-- the reported gaps of a table: all of them, or none if the table has an answer in its gaps
abbrev pub error_gaps : PlanParts → ℕ → List (List Region)
error_gaps plan table = if gap_is_error plan table then reported_gaps plan table else []

-- the overlaps of a table whose rules may not match together under its hit policy, in order
abbrev pub error_overlaps : PlanParts → ℕ → List (ℕ × ℕ)
error_overlaps plan table = filter (λ rules. overlap_is_error plan table rules.0 rules.1) (overlaps_of plan table)

-- the line of a wide table whose gaps would be errors, or no line for another table
abbrev pub error_wide_lines : PlanParts → ℕ → List ℕ
error_wide_lines plan table = if gap_is_error plan table && is_wide plan table then wide_line table else []

-- the lines of a table: these overlaps in order, and then these gaps in order or the line of a wide table
abbrev pub error_table_lines : PlanParts → ℕ → List ℕ
error_table_lines plan table = flat_map (overlap_line table) (error_overlaps plan table) ++ (error_wide_lines plan table ++ flat_map (gap_line table) (error_gaps plan table))

-- the number of reported gaps of these tables
abbrev pub error_gap_count : PlanParts → List ℕ → ℕ
error_gap_count plan tables = sum_by (λ table. length (error_gaps plan table)) tables

-- the number of reported overlaps of these tables
abbrev pub error_overlap_count : PlanParts → List ℕ → ℕ
error_overlap_count plan tables = sum_by (λ table. length (error_overlaps plan table)) tables

-- the text that `check` prints for a plan if it reports only errors: the lines of each table, and then the counts of the reported gaps and overlaps
abbrev pub errors_text : PlanParts → List ℕ
errors_text plan =
    let tables = table_numbers (length plan.tables) in
    flat_map (error_table_lines plan) tables ++ counts_line (error_gap_count plan tables) (error_overlap_count plan tables)

-- the text is the one that `check` prints for the plan that the plan's text denotes, if it reports only errors
pub record IsErrorsCheckText (plan_text : List ℕ) (text : List ℕ) : Type 0 where
  pub plan : PlanParts
  pub spelled : IsPlanText plan_text plan
  pub lines : text ≡ errors_text plan
