-- Results of the steps that read a plan.
use Rattle.std.specs.Prelude.{◌≢◌, Result, Ok, Err}
use Rattle.faults.specs.declared.plan_fault.PlanFault.{PlanFault}
use Rattle.faults.specs.declared.plan_fault.PlanCause.TheVariants.{OutOfMemory}

-- the value that was read has the property; unless memory ran out, a fault means that no value has
-- it
abbrev pub Reads : {T : Type 0} → (T → Type 0) → Result T PlanFault → Type 0
Reads IsSuch (Ok x) = IsSuch x
Reads {T} IsSuch (Err fault) = fault.cause ≢ OutOfMemory → (x : T) → ¬ IsSuch x
