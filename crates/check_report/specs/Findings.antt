-- The texts of `check` by the findings that it reports: all of them, or only the errors.
use Rattle.std.specs.Prelude.{ℕ, ◌++◌, ◌&&◌, Bool, true, if◌then◌else◌, List, [], length, flat_map}
use Rattle.std.specs.List.{sum_by}
use Rattle.tables.specs.Plan.{PlanParts}
use Rattle.regions.specs.declared.region.Region.{Region}
use Rattle.cutplan.specs.Numbered.{overlaps_of}
use Rattle.cutplan.specs.Violations.{gap_is_error}
use Rattle.check_report.specs.declared.check.report.Findings.{Findings}
use Rattle.check_report.specs.declared.check.report.Findings.TheVariants.{All, Errors}
use Rattle.check_report.specs.CheckText.{IsCheckText, counts_line, gap_line, is_wide, overlap_line, table_numbers, reported_gaps, wide_line}
use Rattle.check_report.specs.ErrorsText.{IsErrorsCheckText, error_overlaps}

-- whether the gaps of a table are reported
abbrev pub reports_gaps : Findings → PlanParts → ℕ → Bool
reports_gaps All plan table = true
reports_gaps Errors plan table = gap_is_error plan table

-- the reported gaps of a table
abbrev pub gaps_in : Findings → PlanParts → ℕ → List (List Region)
gaps_in findings plan table = if reports_gaps findings plan table then reported_gaps plan table else []

-- the reported overlaps of a table
abbrev pub overlaps_in : Findings → PlanParts → ℕ → List (ℕ × ℕ)
overlaps_in All plan table = overlaps_of plan table
overlaps_in Errors plan table = error_overlaps plan table

-- the line of a wide table is reported: its gaps are not listed, and would be reported
abbrev pub reports_wide : Findings → PlanParts → ℕ → Bool
reports_wide findings plan table = reports_gaps findings plan table && is_wide plan table

-- the line of a wide table, or no line for another table
abbrev pub wide_lines_in : Findings → PlanParts → ℕ → List ℕ
wide_lines_in findings plan table = if reports_wide findings plan table then wide_line table else []

-- the lines of a table: its overlaps in order, and then its gaps in order or the line of a wide table
abbrev pub table_lines : Findings → PlanParts → ℕ → List ℕ
table_lines findings plan table = flat_map (overlap_line table) (overlaps_in findings plan table) ++ (wide_lines_in findings plan table ++ flat_map (gap_line table) (gaps_in findings plan table))

-- the number of reported gaps of these tables
abbrev pub gap_count_in : Findings → PlanParts → List ℕ → ℕ
gap_count_in findings plan tables = sum_by (λ table. length (gaps_in findings plan table)) tables

-- the number of reported overlaps of these tables
abbrev pub overlap_count_in : Findings → PlanParts → List ℕ → ℕ
overlap_count_in findings plan tables = sum_by (λ table. length (overlaps_in findings plan table)) tables

-- the text for a plan: the lines of each table, and then the counts
abbrev pub text_in : Findings → PlanParts → List ℕ
text_in findings plan =
    let tables = table_numbers (length plan.tables) in
    flat_map (table_lines findings plan) tables ++ counts_line (gap_count_in findings plan tables) (overlap_count_in findings plan tables)

-- the text is the one for the plan that the plan's text denotes
abbrev pub IsReportedText : Findings → List ℕ → List ℕ → Type 0
IsReportedText All = IsCheckText
IsReportedText Errors = IsErrorsCheckText
