-- The faults that are a thread's own.
use Rattle.std.specs.Prelude.{◌≢◌}
use Rattle.faults.specs.declared.run_fault.RunFault.{RunFault}
use Rattle.faults.specs.declared.run_fault.RunFault.TheVariants.{Workers, Stopped}

-- the fault is a thread's own: the caller gives the number of workers, and each caller sees a stop of the run itself
abbrev pub IsMetAlone : RunFault → Type 0
IsMetAlone fault = (fault ≢ Workers) × (fault ≢ Stopped)
