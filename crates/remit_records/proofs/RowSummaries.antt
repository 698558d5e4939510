-- A reader's summary of a row, and the row itself.
use Rattle.std.proofs.Common.{◌≡◌, List, [], ◌∷◌, Option, Some, None}
use Rattle.intake_csv.specs.RowSummary.{GivesSummary, IsSummaryOf, Reports}
use Rattle.intake_csv.specs.Records.{Fields}
use Rattle.intake_csv.specs.Rows.{AreRowsLeft, Gives, GivesRow, IsHead, RowsLeft}
use Rattle.intake_csv.specs.declared.row_summary.RowSummary.{RowSummary}
use Rattle.intake_csv.specs.declared.records.Stage.TheVariants.{Over}
use Rattle.intake_csv.specs.declared.rows.Row.{Row}

-- the reader returns the row with this summary
pub record GivesReported (old new : RowsLeft) (fields : Fields) (summary : RowSummary) : Type 0 where
  pub row : Row
  pub gives : GivesRow old new row
  pub head : (rest : List Row) → AreRowsLeft new rest → AreRowsLeft old (row ∷ rest)
  pub is_summary : IsSummaryOf fields summary row

reported-row : (old new : RowsLeft) (fields : Fields) (summary : RowSummary) (row : Option Row) → Gives old new row → IsHead old new row → Reports fields (Some summary) row
    → GivesReported old new fields summary
reported-row old new fields summary None gives head reports = absurd reports
reported-row old new fields summary (Some row) gives head reports = record { row = row; gives = gives; head = head; is_summary = reports }

-- if the reader returns a summary, it returns a row
pub reported : (old new : RowsLeft) (fields : Fields) (summary : RowSummary) → GivesSummary old new fields (Some summary) → GivesReported old new fields summary
reported old new fields summary g = reported-row old new fields summary g.row g.gives g.head g.reports

-- the reader has no row left
pub record GivesNone (old new : RowsLeft) : Type 0 where
  pub none : old.records ≡ []
  pub head : AreRowsLeft old []
  pub over : new ≡ record old { stage = Over }

reported-none : (old new : RowsLeft) (fields : Fields) (row : Option Row) → Gives old new row → IsHead old new row → Reports fields None row → GivesNone old new
reported-none old new fields None gives head reports = record { none = gives.0; head = head; over = gives.1 }
reported-none old new fields (Some row) gives head reports = absurd reports

-- if the reader returns no summary, it has no row left
pub nothing : (old new : RowsLeft) (fields : Fields) → GivesSummary old new fields None → GivesNone old new
nothing old new fields g = reported-none old new fields g.row g.gives g.head g.reports
