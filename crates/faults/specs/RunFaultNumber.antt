-- The numbers of a run's faults in a program's messages.
use Rattle.std.specs.Prelude.{ℕ}
use Rattle.faults.specs.declared.run_fault.RunFault.{RunFault}
use Rattle.faults.specs.declared.run_fault.RunFault.TheVariants.{Workers, OutOfMemory, Thread, Worn, Stopped}

-- the fault's number in a program's messages
abbrev pub number_of : RunFault → ℕ
number_of Workers = 1
number_of OutOfMemory = 2
number_of Thread = 3
number_of Worn = 4
number_of Stopped = 5
