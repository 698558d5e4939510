-- The result of reading a file's header.
use Rattle.std.specs.Prelude.{◌≡◌, ◌<◌, ◌≤◌, ℕ, List, drop, length}
use Rattle.std.specs.List.{All}
use Rattle.intake_csv.specs.Records.{records_of}
use Rattle.intake_csv.specs.Columns.{IsHeaderedFile}
use Rattle.intake_csv.specs.declared.column.RequiredColumn.{RequiredColumn}
use Rattle.intake_csv.specs.declared.column.Layout.{Layout}
use Rattle.intake_csv.specs.declared.records.Stage.TheVariants.{Reading}
use Rattle.intake_csv.specs.declared.headered_file.HeaderedFile.{HeaderedFile}
use Rattle.intake_csv.specs.Limits.{file_limit_bytes}

-- the places of the columns are within the header
abbrev pub IsWithin : Layout → Type 0
IsWithin layout = All (λ c. c.place < layout.width) layout.columns

-- the text is a file with the required columns; the result has its layout and a reader after its
-- header
pub record IsHeaderedFileOf (needed : List RequiredColumn) (text : List ℕ) (headered_file : HeaderedFile) : Type 0 where
  pub is_headered_file : IsHeaderedFile needed text headered_file.layout (drop 1 (records_of text))
  pub within : IsWithin headered_file.layout
  pub small : length text ≤ file_limit_bytes
  pub records : headered_file.records ≡ record { text = text; given = 1; stage = Reading }
