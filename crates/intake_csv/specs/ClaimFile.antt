-- A provider's file whose header has the required columns of claims.
use Rattle.std.specs.Prelude.{◌≡◌, ℕ, Bool, List, drop}
use Rattle.tables.specs.declared.table.InputData.{InputData}
use Rattle.intake_csv.specs.Columns.{IsHeaderedFile, claim_columns}
use Rattle.intake_csv.specs.Laws.{LieApart}
use Rattle.intake_csv.specs.Record.{IsClaimLayout}
use Rattle.intake_csv.specs.Records.{records_of}
use Rattle.intake_csv.specs.Rows.{RowsLeft}
use Rattle.intake_csv.specs.HeaderedFile.{IsWithin}
use Rattle.intake_csv.specs.declared.column.Layout.{Layout}
use Rattle.intake_csv.specs.declared.records.Stage.TheVariants.{Reading}

-- a claim file in contracts: its text, and the places of the required columns
pub record FileParts : Type 0 where
  pub text : List ℕ
  pub layout : Layout

-- the header has the required columns of claims under a plan with these names
abbrev pub IsFileUnder : List InputData → FileParts → Type 0
IsFileUnder names file = IsHeaderedFile (claim_columns names) file.text file.layout (drop 1 (records_of file.text))

-- the claim file is that of the text, under a plan with these names
pub record IsFileOf (names : List InputData) (text : List ℕ) (file : FileParts) : Type 0 where
  pub text_is : file.text ≡ text
  pub under : IsFileUnder names file

-- the reader of the file's rows, at the first record after the header
abbrev pub rows_of : FileParts → RowsLeft
rows_of file = record { layout = file.layout; number = 1; place = 0; records = drop 1 (records_of file.text); stage = Reading }

-- the invariant of a claim file, which has a column for the family or not
pub record IsValidated (text : List ℕ) (layout : Layout) (families : Bool) : Type 0 where
  pub names : List InputData
  pub under : IsHeaderedFile (claim_columns names) text layout (drop 1 (records_of text))
  pub within : IsWithin layout
  pub columns : IsClaimLayout families layout
  pub apart : LieApart layout.columns
