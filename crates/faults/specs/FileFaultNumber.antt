-- The numbers of faults in the messages of programs.
use Rattle.std.specs.Prelude.{ℕ}
use Rattle.faults.specs.declared.file_fault.FileFault.{FileFault}
use Rattle.faults.specs.declared.file_fault.FileFault.TheVariants as file
use Rattle.faults.specs.declared.file_fault.RowCause.{RowCause}
use Rattle.faults.specs.declared.file_fault.RowCause.TheVariants as cause

-- the number of a fault of a file
abbrev pub file_number_of : FileFault → ℕ
file_number_of file.TooLarge = 1
file_number_of file.NoHeader = 2
file_number_of file.MissingColumn = 3
file_number_of file.DuplicateColumn = 4
file_number_of file.OutOfMemory = 5

-- the number of the cause of a record's fault
abbrev pub cause_number_of : RowCause → ℕ
cause_number_of cause.FieldCount = 1
cause_number_of cause.Utf8 = 2
cause_number_of cause.TooLong = 3
cause_number_of cause.EmptyId = 4
cause_number_of cause.Value = 5
cause_number_of cause.NotCents = 6
cause_number_of cause.Negative = 7
cause_number_of cause.Repeated = 8
cause_number_of cause.Sum = 9
