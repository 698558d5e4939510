-- The laws of claim files.
use Rattle.std.specs.Prelude.{◌≡◌, ◌≢◌, ℕ, List, [], ◌∷◌}
use Rattle.std.specs.List.{AllPairs}
use Rattle.tables.specs.declared.table.InputData.{InputData}
use Rattle.tables.specs.Names.{names_of}
use Rattle.tables.specs.Plan.{IsPlan, PlanParts, keeps_families}
use Rattle.settlement.specs.declared.claim.Claim.{Claim}
use Rattle.settlement.specs.Claim.{IsClaimOf}
use Rattle.intake_csv.specs.Records.{Fields}
use Rattle.intake_csv.specs.Columns.{IsHeaderedFile, claim_columns}
use Rattle.intake_csv.specs.Rows.{AreRowsLeft, AreRowsOf, GivesRow, HasValues, IsAtStart, RowsLeft, claim_in, claim_values}
use Rattle.intake_csv.specs.declared.column.Column.{Column}
use Rattle.intake_csv.specs.declared.column.Layout.{Layout}
use Rattle.intake_csv.specs.declared.rows.Row.{Row}

-- a claim in a record of a claim file fits the plan of the file
abbrev pub ClaimsHaveFields : Type 0
ClaimsHaveFields = (plan : PlanParts) (fields : List InputData) (text : List ℕ) (layout : Layout) (records : List Fields) (row : Fields) (claim : Claim)
    → plan.names ≡ names_of (keeps_families plan) fields → IsHeaderedFile (claim_columns plan.names) text layout records → HasValues layout row (claim_values claim) → IsClaimOf plan claim

-- the columns have pairwise distinct places in the header
abbrev pub LieApart : List Column → Type 0
LieApart columns = AllPairs (λ a b. a.place ≢ b.place) columns

-- the remaining rows of a reader at the start of a text are the rows of the text
abbrev pub StartHasTheRows : Type 0
StartHasTheRows = (names : List InputData) (text : List ℕ) (left : RowsLeft) (rows : List Row) → IsAtStart names text left → AreRowsOf names text rows
    → AreRowsLeft left rows

-- the rows are this row and then the remaining rows of the reader
pub record BeginWith (row : Row) (left : RowsLeft) (rows : List Row) : Type 0 where
  pub rest : List Row
  pub rows_are : rows ≡ row ∷ rest
  pub rest_left : AreRowsLeft left rest

-- the row that a reader returns is the first of its remaining rows, if the columns have distinct
-- places
abbrev pub GivenRowIsTheFirst : Type 0
GivenRowIsTheFirst = (old new : RowsLeft) (row : Row) (rows : List Row) → LieApart old.layout.columns → GivesRow old new row → AreRowsLeft old rows
    → BeginWith row new rows

-- the first of the rows has the same claim as this row, or neither has one, and the others are the
-- remaining rows of the reader
pub record BeginLike (row : Row) (left : RowsLeft) (rows : List Row) : Type 0 where
  pub first : Row
  pub rest : List Row
  pub rows_are : rows ≡ first ∷ rest
  pub claims : claim_in first ≡ claim_in row
  pub rest_left : AreRowsLeft left rest

-- the row that a reader returns has the same claim as the first of its remaining rows
abbrev pub GivenRowHasTheClaim : Type 0
GivenRowHasTheClaim = (old new : RowsLeft) (row : Row) (rows : List Row) → GivesRow old new row → AreRowsLeft old rows → BeginLike row new rows

-- a text has at most one list of rows under the names of a plan
abbrev pub TextHasOneListOfRows : Type 0
TextHasOneListOfRows = (plan : PlanParts) (text : List ℕ) (rows others : List Row) → IsPlan plan → AreRowsOf plan.names text rows → AreRowsOf plan.names text others
    → rows ≡ others

-- a list of rows of a text
pub record RowsOf (names : List InputData) (text : List ℕ) : Type 0 where
  pub rows : List Row
  pub are : AreRowsOf names text rows

-- no claim file lacks a list of rows
abbrev pub FilesHaveRows : Type 0
FilesHaveRows = (names : List InputData) (text : List ℕ) (layout : Layout) (records : List Fields) → IsHeaderedFile (claim_columns names) text layout records
    → ¬ ¬ RowsOf names text

-- a reader without remaining records has no remaining rows
abbrev pub NoRecordsNoRows : Type 0
NoRecordsNoRows = (left : RowsLeft) (rows : List Row) → left.records ≡ [] → AreRowsLeft left rows → rows ≡ []
