-- The rows of a file, of a reader or of all files, and the writing of their text.
use Rattle.std.specs.Prelude.{◌≡◌, ◌≤◌, ℕ, List, ◌++◌, drop, map, take, Option, Some, None, Result, Ok, Err}
use Rattle.std.specs.List.{AllZip}
use Rattle.tables.specs.declared.table.InputData.{InputData}
use Rattle.intake_csv.specs.Laws.{LieApart}
use Rattle.intake_csv.specs.Rows.{AreRowsLeft, AreRowsOf, RowsLeft}
use Rattle.intake_csv.specs.declared.rows.Row.{Row}
use Rattle.remit_records.specs.RecordWriter.{At, Writes}
use Rattle.remit_records.specs.Records.{Deciding, record_of, records_of}
use Rattle.remit_records.specs.Report.{text_of}
use Rattle.faults.specs.declared.write_fault.WriteFault.{WriteFault}

-- the text of a provider's rows
abbrev pub rows_text : Deciding → ℕ → List Row → List ℕ
rows_text decided provider rows = text_of (map (record_of decided provider) rows)

-- the text of the rows of the providers' files, the first of which is this provider's
abbrev pub files_text : Deciding → ℕ → List (List Row) → List ℕ
files_text decided provider files = text_of (records_of decided provider files)

-- the list `whole` begins with `front`
pub record Begin {A : Type 0} (front whole : List A) : Type 0 where
  pub rest : List A
  pub whole_is : whole ≡ front ++ rest

-- these are the remaining rows of a reader, and the only ones if its columns are distinct
pub record GivesAll (left : RowsLeft) (rows : List Row) : Type 0 where
  pub are_rows : AreRowsLeft left rows
  pub only : LieApart left.layout.columns → (all : List Row) → AreRowsLeft left all → all ≡ rows

-- the rows are the returned ones, followed by the remaining rows of the reader
pub record StartWith (given : List Row) (left : RowsLeft) (rows : List Row) : Type 0 where
  pub rest : List Row
  pub rows_are : rows ≡ given ++ rest
  pub rest_left : AreRowsLeft left rest

-- a reader has returned these rows since its start
pub record Passed (start now : RowsLeft) (given : List Row) : Type 0 where
  pub forward : (rest : List Row) → AreRowsLeft now rest → AreRowsLeft start (given ++ rest)
  pub only : LieApart start.layout.columns → (all : List Row) → AreRowsLeft start all → StartWith given now all
  pub layout : now.layout ≡ start.layout

-- a reader has passed over this number of rows, or over all that remained
pub record Skips (old new : RowsLeft) (count : ℕ) : Type 0 where
  pub given : List Row
  pub passed : Passed old new given
  pub counted : (rest : List Row) → AreRowsLeft new rest → rest ≡ drop count (given ++ rest)

-- the number does not exceed the limit, if there is one
abbrev pub IsWithin : ℕ → Option ℕ → Type 0
IsWithin count None = Unit {0}
IsWithin count (Some limit) = count ≤ limit

-- the first rows, at most as many as the limit, if there is one
abbrev pub up_to : Option ℕ → List Row → List Row
up_to None rows = rows
up_to (Some limit) rows = take limit rows

-- these are the remaining rows of a reader up to the limit, if its columns are distinct
abbrev pub GivesUpTo : Option ℕ → RowsLeft → List Row → Type 0
GivesUpTo None left rows = GivesAll left rows
GivesUpTo (Some limit) left rows = LieApart left.layout.columns → (all : List Row) → AreRowsLeft left all → take limit all ≡ rows

-- if a reader's columns are distinct, its remaining rows up to the limit begin with these
abbrev pub GivesFirst : Option ℕ → RowsLeft → List Row → Type 0
GivesFirst limit left front = LieApart left.layout.columns → (all : List Row) → AreRowsLeft left all → Begin front (up_to limit all)

-- the remaining rows of a reader up to the limit are written; or the first of them are, before the writing ends with a fault
abbrev pub WritesLeft : Deciding → ℕ → Option ℕ → RowsLeft → At → At → Result (Unit {0}) WriteFault → Type 0
WritesLeft decided provider limit left old new (Ok done) =
    (rows : List Row) × GivesUpTo limit left rows × Writes old new (rows_text decided provider rows) (Ok done)
WritesLeft decided provider limit left old new (Err fault) =
    (rows : List Row) × GivesFirst limit left rows × Writes old new (rows_text decided provider rows) (Err fault)

-- these are the rows of the text, and the text has no other rows
pub record IsRead (names : List InputData) (text : List ℕ) (rows : List Row) : Type 0 where
  pub are_rows : AreRowsOf names text rows
  pub only : (all : List Row) → AreRowsOf names text all → all ≡ rows

-- the rows of the text begin with these
abbrev pub IsReadFirst : List InputData → List ℕ → List Row → Type 0
IsReadFirst names text front = (all : List Row) → AreRowsOf names text all → Begin front all

-- the rows of a provider's file are written; or the first of them are, before the writing ends with a fault
abbrev pub WritesFile : Deciding → ℕ → List InputData → List ℕ → At → At → Result (Unit {0}) WriteFault → Type 0
WritesFile decided provider names text old new (Ok done) = (rows : List Row) × IsRead names text rows × Writes old new (rows_text decided provider rows) (Ok done)
WritesFile decided provider names text old new (Err fault) =
    (rows : List Row) × IsReadFirst names text rows × Writes old new (rows_text decided provider rows) (Err fault)

-- these are the rows of the files, and the files have no other rows
pub record AreRead (names : List InputData) (texts : List (List ℕ)) (files : List (List Row)) : Type 0 where
  pub are_rows : AllZip (AreRowsOf names) texts files
  pub only : (all : List (List Row)) → AllZip (AreRowsOf names) texts all → all ≡ files

-- the rows of the files are written; or a beginning of their text is, before the writing ends with a fault
abbrev pub WritesFiles : Deciding → List InputData → List (List ℕ) → At → At → Result (Unit {0}) WriteFault → Type 0
WritesFiles decided names texts old new (Ok done) = (files : List (List Row)) × AreRead names texts files × Writes old new (files_text decided 1 files) (Ok done)
WritesFiles decided names texts old new (Err fault) =
    (front : List ℕ) × ((all : List (List Row)) → AllZip (AreRowsOf names) texts all → Begin front (files_text decided 1 all))
    × Writes old new front (Err fault)

-- if the first `from` files are written, the first `upto` files are; or a beginning of their text is, before the writing ends with a fault
pub record WritesOn (decided : Deciding) (names : List InputData) (texts : List (List ℕ)) (from upto : ℕ) (old new : At) (result : Result (Unit {0}) WriteFault) : Type 0 where
  pub on : (start : At) → WritesFiles decided names (take from texts) start old (Ok tt) → WritesFiles decided names (take upto texts) start new result
