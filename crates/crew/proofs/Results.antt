-- Statements on the results of threads, and on their faults.
use Rattle.std.proofs.Common.{◌≡◌, ◌≢◌, ℕ, Result, Ok, Err, refl}
use Rattle.std.specs.Prelude.{◌↔◌, IfOk}
use Rattle.crew.specs.Workers.{IsWorkerCount}
use Rattle.faults.specs.declared.run_fault.RunFault.{RunFault}
use Rattle.faults.specs.declared.run_fault.RunFault.TheVariants.{Workers, OutOfMemory, Worn, Stopped}

-- if the premise of a statement on a result is known, the statement holds
pub under_known : {A E : Type 0} (X : Type 0) (Y : A → Type 0) (answer : Result A E) → X → IfOk answer (λ value. X → Y value) → IfOk answer Y
under_known X Y (Ok value) known has = has known
under_known X Y (Err left) known has = tt

-- a statement on a result that has this premise too holds
pub under_any : {A E : Type 0} (X : Type 0) (Y : A → Type 0) (answer : Result A E) → IfOk answer Y → IfOk answer (λ value. X → Y value)
under_any X Y (Ok value) has = λ _. has
under_any X Y (Err left) has = tt

-- if the premise of a statement on a result is false, the statement holds
pub under_none : {A E : Type 0} (X : Type 0) (Y : A → Type 0) (answer : Result A E) → ¬ X → IfOk answer (λ value. X → Y value)
under_none X Y (Ok value) none = λ known. absurd (none known)
under_none X Y (Err left) none = tt

-- different faults
pub memory_not_workers : OutOfMemory ≢ Workers
memory_not_workers same = cc

pub memory_not_stopped : OutOfMemory ≢ Stopped
memory_not_stopped same = cc

pub worn_not_workers : Worn ≢ Workers
worn_not_workers same = cc

-- if the number of workers is allowed, the fault is not `Workers`, as the contract says
pub not_for_workers : (workers : ℕ) (fault : RunFault) → IsWorkerCount workers → fault ≢ Workers → (fault ≡ Workers) ↔ (¬ IsWorkerCount workers)
not_for_workers workers fault is other = (λ same. absurd (other same), λ isnt. absurd (isnt is))
