-- The report of a plan's check, before it is printed. A gap is given by its index among the cells of the table. Tables are numbered from 1,
-- and indices from 0.
use Rattle.std.specs.Prelude.{◌≡◌, ℕ, ◌+◌, ◌/◌, ◌%◌, ◌++◌, ◌==◌, Bool, if◌then◌else◌, List, [], ◌∷◌, length, map, flat_map, min, max, codes, decimal, Option, Some, None, get_or}
use Rattle.std.specs.Global.{Vec}
use Rattle.std.specs.List.{join_by}
use Rattle.tables.specs.Plan.{PlanParts}
use Rattle.regions.specs.declared.region.Region.{Region}
use Rattle.cutplan.specs.Check.{cells}
use Rattle.cutplan.specs.Numbered.{cell_limit}
use Rattle.check_report.specs.declared.check.report.ColumnText.{ColumnText}
use Rattle.check_report.specs.declared.check.report.Findings.{Findings}
use Rattle.check_report.specs.declared.check.report.CheckReport.{CheckReport}
use Rattle.check_report.specs.declared.check.report.TableReport.{TableReport}
use Rattle.evaluation.specs.ValueText.{line_end}
use Rattle.check_report.specs.CheckText.{counts_line, overlap_line, region_text, table_numbers, wide_line}
use Rattle.check_report.specs.Findings.{gap_count_in, gaps_in, overlap_count_in, overlaps_in, reports_gaps, reports_wide}

-- the text between two regions
abbrev pub separator : List ℕ
separator = codes " ; "

-- the text of a region after a mark
abbrev pub marked_region : List ℕ → Region → List ℕ
marked_region mark region = mark ++ region_text region

-- a column before more columns: the texts of its regions, and the number of cells of the others, or one more than the limit if there
-- are more
abbrev pub column_text : List ℕ → List Region → List (List Region) → ColumnText
column_text mark regions more = record { regions = map (marked_region mark) regions; following = min (length (cells more)) (cell_limit + 1) }

-- the columns, of which the first begins with this mark and the others with the separator
abbrev pub column_texts : List ℕ → List (List Region) → List ColumnText
column_texts mark [] = []
column_texts mark (regions ∷ more) = column_text mark regions more ∷ column_texts separator more

-- the columns, or no columns if there are no gaps
abbrev pub column_texts_if : List ℕ → List (List Region) → List ColumnText
column_texts_if gaps columns = if length gaps == 0 then [] else column_texts [] columns

-- the texts of the regions of the cell at an index; the last column changes fastest
abbrev pub cell_text : List ColumnText → ℕ → List ℕ
cell_text [] place = []
cell_text (c ∷ cs) place = get_or c.regions (place / max c.following 1) [] ++ cell_text cs (place % max c.following 1)

-- the indices of the reported gaps
abbrev pub reported_places : Findings → PlanParts → ℕ → Option (Vec ℕ) → List ℕ
reported_places findings plan table (Some found) = if reports_gaps findings plan table then found.items else []
reported_places findings plan table None = []

-- the report on the table with this number
pub record IsReported (findings : Findings) (plan : PlanParts) (table : ℕ) (reported : TableReport) : Type 0 where
  pub overlaps : reported.overlaps.items ≡ overlaps_in findings plan table
  pub wide : reported.is_wide ≡ reports_wide findings plan table
  pub gaps : map (cell_text reported.columns) reported.gaps.items ≡ map (join_by region_text separator) (gaps_in findings plan table)

-- the reports on the tables from this number on
abbrev pub AreReported : Findings → PlanParts → ℕ → List TableReport → Type 0
AreReported findings plan number [] = Unit {0}
AreReported findings plan number (reported ∷ more) = IsReported findings plan number reported × AreReported findings plan (number + 1) more

-- the report on the first `count` tables
pub record IsReportedOfFirst (findings : Findings) (plan : PlanParts) (count : ℕ) (reported : CheckReport) : Type 0 where
  pub long : length reported.tables.items ≡ count
  pub tables : AreReported findings plan 1 reported.tables.items
  pub gaps : reported.gaps ≡ gap_count_in findings plan (table_numbers count)
  pub overlaps : reported.overlaps ≡ overlap_count_in findings plan (table_numbers count)

-- the report on all tables
abbrev pub IsReportedOf : Findings → PlanParts → CheckReport → Type 0
IsReportedOf findings plan reported = IsReportedOfFirst findings plan (length plan.tables) reported

-- the line of the gap at an index
abbrev pub reported_gap_line : ℕ → List ColumnText → ℕ → List ℕ
reported_gap_line table columns place = codes "gap table " ++ (decimal table ++ (codes ": " ++ (cell_text columns place ++ line_end ∷ [])))

-- the line of a wide table, or no line for another table
abbrev pub reported_wide_lines : ℕ → Bool → List ℕ
reported_wide_lines table wide = if wide then wide_line table else []

-- the lines of the table with this number
abbrev pub reported_table_lines : ℕ → TableReport → List ℕ
reported_table_lines number reported =
    flat_map (overlap_line number) reported.overlaps.items ++ (reported_wide_lines number reported.is_wide ++ flat_map (reported_gap_line number reported.columns) reported.gaps.items)

-- the lines of the tables from this number on
abbrev pub reported_lines : ℕ → List TableReport → List ℕ
reported_lines number [] = []
reported_lines number (reported ∷ more) = reported_table_lines number reported ++ reported_lines (number + 1) more

-- the text of the report
abbrev pub reported_text : CheckReport → List ℕ
reported_text reported = reported_lines 1 reported.tables.items ++ counts_line reported.gaps reported.overlaps
