-- The result of the search for the required columns in a header.
use Rattle.std.specs.Prelude.{◌≡◌, ◌<◌, ℕ, Bool, true, false, List, Some}
use Rattle.std.specs.List.{All, Any}
use Rattle.csv.specs.Records.{field_at}
use Rattle.intake_csv.specs.Records.{Fields}
use Rattle.intake_csv.specs.declared.header.Found.{Found}
use Rattle.intake_csv.specs.Columns.{AreColumnsOf, times, IsMissing, IsThere, IsRepeated}
use Rattle.intake_csv.specs.declared.column.RequiredColumn.{RequiredColumn}
use Rattle.intake_csv.specs.declared.header.ColumnMatch.{ColumnMatch}
use Rattle.intake_csv.specs.declared.header.ColumnMatch.TheVariants.{Missing, Once, Repeated}
use Rattle.faults.specs.declared.file_fault.FileFault.{FileFault}
use Rattle.faults.specs.declared.file_fault.FileFault.TheVariants.{TooLarge, NoHeader, MissingColumn, DuplicateColumn, OutOfMemory}

-- the occurrences of the name in the header
abbrev pub MatchesAs : List ℕ → Fields → ColumnMatch → Type 0
MatchesAs name header Missing = times name header ≡ 0
MatchesAs name header (Once place) = (times name header ≡ 1) × (field_at header place ≡ Some name)
MatchesAs name header Repeated = 1 < times name header

-- the header lacks a required column, or it has all of them and one more than once
abbrev pub HasColumnFault : Fields → List RequiredColumn → FileFault → Type 0
HasColumnFault header needed MissingColumn = Any (IsMissing header) needed
HasColumnFault header needed DuplicateColumn = All (IsThere header) needed × Any (IsRepeated header) needed
HasColumnFault header needed OutOfMemory = Unit {0}
HasColumnFault header needed TooLarge = ⊥
HasColumnFault header needed NoHeader = ⊥

-- the occurrences after one more place, which has the name or another one
abbrev pub comes_after : ColumnMatch → ℕ → Bool → ColumnMatch
comes_after present place false = present
comes_after Missing place true = Once place
comes_after (Once first) place true = Repeated
comes_after Repeated place true = Repeated

-- the result for these required columns: all of them occur, each once or one of them more than once
pub record AreFound (header : Fields) (needed : List RequiredColumn) (found : Found) : Type 0 where
  pub all : All (IsThere header) needed
  pub columns : found.repeated ≡ false → AreColumnsOf header needed found.columns
  pub repeats : found.repeated ≡ true → Any (IsRepeated header) needed

-- a column is missing if its name does not occur; nothing is stated if memory runs out
abbrev pub MissesColumn : Fields → RequiredColumn → FileFault → Type 0
MissesColumn header needed MissingColumn = IsMissing header needed
MissesColumn header needed OutOfMemory = Unit {0}
MissesColumn header needed DuplicateColumn = ⊥
MissesColumn header needed TooLarge = ⊥
MissesColumn header needed NoHeader = ⊥
