-- The passes of a thread from call to call, until the thread leaves the run.
use Rattle.std.proofs.Common.{inl, inr, ◌≡◌, ◌≢◌, ℕ, true, Result, Ok, Err, refl, subst, sym}
use Rattle.std.specs.Prelude.{◌↔◌, IfOk, IfErr}
use Rattle.journal.specs.Gate.{LeadsTo}
use Rattle.journal.specs.Leading.{leads_further, leads_itself}
use Rattle.claim_gate.specs.Shared.{IsServed, IsWornOut, Known}
use Rattle.gate_calls.specs.Passes.{GoesOn, LeavesWith}
use Rattle.gate_calls.specs.declared.shared.Exit.{Exit}
use Rattle.gate_calls.specs.declared.shared.Onward.{Onward}
use Rattle.faults.specs.declared.run_fault.RunFault.{RunFault}
use Rattle.faults.specs.declared.run_fault.RunFault.TheVariants.{Workers, OutOfMemory, Worn, Stopped}

module _ {P : Type 0} (has_pass : P → Type 0) (known : P → Known) where
  -- a pass goes on by a section
  pub after_section : (old new : P) → IsServed has_pass known (known old) new → GoesOn has_pass known old new
  after_section old new h = record {
    own = h.own;
    seen = leads_further (known old).seen (known new).found (known new).seen h.section.fresh h.section.grown;
  }

  -- a pass goes on to one that knows what it knew
  pub unchanged : (old new : P) → has_pass new → known new ≡ known old → GoesOn has_pass known old new
  unchanged old new own same = record { own = own; seen = subst (λ k. LeadsTo (known old).seen k.seen) (sym same) (leads_itself (known old).seen) }

  -- a pass goes on to what its successor goes on to
  pub further : (a b c : P) → GoesOn has_pass known a b → GoesOn has_pass known b c → GoesOn has_pass known a c
  further a b c first second = record { own = second.own; seen = leads_further (known a).seen (known b).seen (known c).seen first.seen second.seen }

  -- a pass that has gone on goes on by a section
  pub section_later : (a b c : P) → GoesOn has_pass known a b → IsServed has_pass known (known b) c → GoesOn has_pass known a c
  section_later a b c first h = further a b c first (after_section b c h)

  -- a result's pass goes on from the earlier pass, too
  pub further_where_ok : {E : Type 0} (a b : P) (answer : Result P E) → GoesOn has_pass known a b → IfOk answer (GoesOn has_pass known b) → IfOk answer (GoesOn has_pass known a)
  further_where_ok a b (Ok pass) first later = further a b pass first later
  further_where_ok a b (Err exit) first later = tt

  -- so does the pass of a result that has another value, too
  pub further_beside : {A E : Type 0} (a b : P) (answer : Result (Onward A P) E) → GoesOn has_pass known a b → IfOk answer (λ r. GoesOn has_pass known b r.pass)
      → IfOk answer (λ r. GoesOn has_pass known a r.pass)
  further_beside a b (Ok r) first later = further a b r.pass first later
  further_beside a b (Err exit) first later = tt

  pub leads_beside : {A E : Type 0} (a : P) (answer : Result (Onward A P) E) → IfOk answer (λ r. GoesOn has_pass known a r.pass)
      → IfOk answer (λ r. LeadsTo (known a).seen (known r.pass).seen)
  leads_beside a (Ok r) on = on.seen
  leads_beside a (Err exit) on = tt

  module _ (is_worn : P → Type 0) where
    -- a thread that leaves after its pass has gone on leaves with respect to the earlier pass, too
    pub leaves_later : (a b : P) (exit : Exit P) → GoesOn has_pass known a b → LeavesWith has_pass is_worn known b exit → LeavesWith has_pass is_worn known a exit
    leaves_later a b exit first later = record { goes_on = further a b exit.pass first later.goes_on; fault = later.fault; stopped = later.stopped; ended = later.ended }

    pub leaves_later_where_err : {A : Type 0} (a b : P) (answer : Result A (Exit P)) → GoesOn has_pass known a b
        → IfErr answer (LeavesWith has_pass is_worn known b) → IfErr answer (LeavesWith has_pass is_worn known a)
    leaves_later_where_err a b (Ok value) first later = tt
    leaves_later_where_err a b (Err exit) first later = leaves_later a b exit first later

    -- a thread leaves because it is out of memory
    pub leaves_for_memory : (a b : P) → GoesOn has_pass known a b → LeavesWith has_pass is_worn known a (record { fault = OutOfMemory; pass = b })
    leaves_for_memory a b on = record { goes_on = on; fault = λ other. cc; stopped = λ other. cc; ended = λ other. absurd (other refl) }

    -- so it is with a fault that is this one
    pub leaves_by_memory : (a b : P) (fault : RunFault) → GoesOn has_pass known a b → fault ≡ OutOfMemory → LeavesWith has_pass is_worn known a (record { fault = fault; pass = b })
    leaves_by_memory a b fault on is = subst (λ f. LeavesWith has_pass is_worn known a (record { fault = f; pass = b })) (sym is) (leaves_for_memory a b on)

    -- a thread leaves because the gate is stopped
    pub leaves_stopped : (a b : P) → GoesOn has_pass known a b → (known b).seen.stopped ≡ true → LeavesWith has_pass is_worn known a (record { fault = Stopped; pass = b })
    leaves_stopped a b on is = record { goes_on = on; fault = λ other. cc; stopped = λ _. is; ended = λ _. inl is }

    -- a thread leaves because the lock has no ticket left
    pub leaves_worn : (a b : P) → IsWornOut has_pass is_worn known (known a) b → LeavesWith has_pass is_worn known a (record { fault = Worn; pass = b })
    leaves_worn a b h = record { goes_on = unchanged a b h.own h.same; fault = λ other. cc; stopped = λ other. cc; ended = λ _. inr h.worn }

    -- a thread whose pass has gone on leaves because the lock has no ticket left
    pub worn_later : (a b c : P) → GoesOn has_pass known a b → IsWornOut has_pass is_worn known (known b) c → LeavesWith has_pass is_worn known a (record { fault = Worn; pass = c })
    worn_later a b c first h = leaves_later a b (record { fault = Worn; pass = c }) first (leaves_worn b c h)
