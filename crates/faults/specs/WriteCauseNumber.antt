-- The causes that end the writing of a remittance early, by number.
use Rattle.std.specs.Prelude.{ℕ}
use Rattle.faults.specs.declared.write_fault.WriteCause.{WriteCause}
use Rattle.faults.specs.declared.write_fault.WriteCause.TheVariants.{Device, OutOfMemory}

-- the number of a cause
abbrev pub number_of : WriteCause → ℕ
number_of Device = 1
number_of OutOfMemory = 2
