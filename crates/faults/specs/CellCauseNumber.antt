-- The causes of errors in a cell or a literal, by number.
use Rattle.std.specs.Prelude.{ℕ}
use Rattle.faults.specs.declared.cell_fault.CellCause.{CellCause}
use Rattle.faults.specs.declared.cell_fault.CellCause.TheVariants.{Token, Literal, WrongKind, BadEscape, BadDate, TooMany, Trailing, OutOfMemory}

-- the number that messages print for a cause
abbrev pub number_of : CellCause → ℕ
number_of Token = 1
number_of Literal = 2
number_of WrongKind = 3
number_of BadEscape = 4
number_of BadDate = 5
number_of TooMany = 6
number_of Trailing = 7
number_of OutOfMemory = 8
