-- What a function of a run returns of its caller's pass of the shared gate.
use Rattle.std.specs.Prelude.{◌≡◌, ◌≢◌, ◌⊎◌, true}
use Rattle.journal.specs.Gate.{LeadsTo}
use Rattle.claim_gate.specs.Shared.{Known}
use Rattle.gate_calls.specs.declared.shared.Exit.{Exit}
use Rattle.faults.specs.declared.run_fault.RunFault.TheVariants.{Workers, OutOfMemory, Stopped}

-- the pass belongs to the gate, and the state that the old pass had seen leads to the state that it has seen
pub record GoesOn {P : Type 0} (has_pass : P → Type 0) (known : P → Known) (old new : P) : Type 0 where
  pub own : has_pass new
  pub seen : LeadsTo (known old).seen (known new).seen

-- no caller of the gate goes on: the pass has seen the gate stopped, or that its lock has no ticket left
abbrev pub HasEnded : {P : Type 0} → (P → Type 0) → (P → Known) → P → Type 0
HasEnded is_worn known pass = ((known pass).seen.stopped ≡ true) ⊎ is_worn pass

-- a thread leaves a run by this fault, with such a pass: the fault is not the number of workers, it is a stop only where the
-- pass has seen the gate stopped, and only a thread that is out of memory leaves a gate on which others may go on
pub record LeavesWith {P : Type 0} (has_pass is_worn : P → Type 0) (known : P → Known) (old : P) (exit : Exit P) : Type 0 where
  pub goes_on : GoesOn has_pass known old exit.pass
  pub fault : exit.fault ≢ Workers
  pub stopped : exit.fault ≡ Stopped → (known exit.pass).seen.stopped ≡ true
  pub ended : exit.fault ≢ OutOfMemory → HasEnded is_worn known exit.pass
