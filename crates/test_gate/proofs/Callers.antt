-- The callers of a gate from call to call.
use Rattle.std.proofs.Common.{◌≡◌, Option, Some, None, Result, sym, ap, ◌∙◌, subst}
use Rattle.std.specs.Prelude.{IfOk, IfSome}
use Rattle.journal.specs.Gate.{LeadsTo, Takes}
use Rattle.journal.specs.Laws.{JobsAreStable}
use Rattle.journal.specs.Leading.{leads_further}
use Rattle.claim_gate.specs.Replies.{IsWorkOf, take_reply}
use Rattle.claim_gate.specs.Shared.{IsServed, IsWornOut, Known, Went}
use Rattle.claim_gate.specs.Terms.{TermsParts}
use Rattle.claim_gate.specs.declared.fault.TakeFault.{TakeFault}
use Rattle.claim_gate.specs.declared.job.Job.{Job}
use Rattle.claim_gate.specs.declared.reply.Taken.{Taken}
use Rattle.test_gate.specs.Words.{IsAtWork, IsCaller, IsLastJob, IsSeated}
use Rattle.test_gate.proofs.Jobs.{last_at_work, last_stays, work_taken}

module _ {P : Type 0} (has_pass : P → Type 0) (known : P → Known) (terms : TermsParts) where
  led : (old new : P) → IsServed has_pass known (known old) new → LeadsTo (known old).seen (known new).seen
  led old new h = leads_further (known old).seen (known new).found (known new).seen h.section.fresh h.section.grown

  caller_on : (old new : P) → IsCaller has_pass known terms old → IsServed has_pass known (known old) new → IsCaller has_pass known terms new
  caller_on old new caller h = record {
    own = h.own;
    terms_are = (led old new h).terms ∙ caller.terms_are;
    any_order = caller.any_order;
  }

  -- a caller remains one by a section
  pub stays_seated : JobsAreStable → (old new : P) (job : Option Job) → IsSeated has_pass known terms old job → IsServed has_pass known (known old) new
      → IsSeated has_pass known terms new job
  stays_seated law old new job seat h = record {
    caller = caller_on old new seat.caller h;
    at_work = last_stays law (known old).seen (known new).seen job (led old new h) seat.at_work;
  }

  -- a caller remains one where no ticket is left
  pub stays_seated_worn : (is_worn : P → Type 0) (old new : P) (job : Option Job) → IsSeated has_pass known terms old job
      → IsWornOut has_pass is_worn known (known old) new → IsSeated has_pass known terms new job
  stays_seated_worn is_worn old new job seat h = record {
    caller = record {
      own = h.own;
      terms_are = ap (λ (k : Known). k.seen.terms) h.same ∙ seat.caller.terms_are;
      any_order = seat.caller.any_order;
    };
    at_work = subst (λ (k : Known). IfSome job (IsAtWork k.seen)) (sym h.same) seat.at_work;
  }

  -- a caller remains one by a `take`
  pub seated_after_take : JobsAreStable → (old new : P) (job last : Option Job) (reply : Result Taken TakeFault) → IsSeated has_pass known terms old job
      → IsServed has_pass known (known old) new → Went (λ before after. Takes before (take_reply reply) after) (known new)
      → IfOk reply (IsWorkOf (known new).found (known new).seen) → IsLastJob reply job last → IsSeated has_pass known terms new last
  seated_after_take law old new job last reply seat h went work is =
      let kept = last_stays law (known old).seen (known new).seen job (led old new h) seat.at_work in
      let work_is = work_taken law (known new).found (known new).seen reply went work in
      record {
        caller = caller_on old new seat.caller h;
        at_work = last_at_work (known new).seen job last reply kept work_is is;
      }

  -- the same holds with a copy of the job
  pub with_copy : (pass : P) (job copy : Job) → copy ≡ job → IsSeated has_pass known terms pass (Some job) → IsSeated has_pass known terms pass (Some copy)
  with_copy pass job copy same seat = subst (λ (j : Job). IsSeated has_pass known terms pass (Some j)) (sym same) seat

  -- the job that a caller has
  pub with_job : (pass : P) (held : Option Job) (job : Job) → held ≡ Some job → IsSeated has_pass known terms pass held → IsSeated has_pass known terms pass (Some job)
  with_job pass held job is seat = subst (λ (h : Option Job). IsSeated has_pass known terms pass h) is seat

  -- a caller that has taken no claim yet
  pub without_job : (pass : P) → IsCaller has_pass known terms pass → IsSeated has_pass known terms pass None
  without_job pass caller = record { caller = caller; at_work = tt }
