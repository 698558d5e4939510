-- The numbers of the terms' faults in a program's messages.
use Rattle.std.specs.Prelude.{ℕ}
use Rattle.faults.specs.declared.terms_fault.TermsFault.{TermsFault}
use Rattle.faults.specs.declared.terms_fault.TermsFault.TheVariants.{NoRoles, Files, File, Balances, OutOfMemory}

-- the fault's number in a program's messages
abbrev pub number_of : TermsFault → ℕ
number_of NoRoles = 1
number_of Files = 2
number_of (File provider fault) = 3
number_of (Balances fault) = 4
number_of OutOfMemory = 5
