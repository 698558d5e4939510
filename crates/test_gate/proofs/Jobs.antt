-- Jobs in progress.
use Rattle.std.proofs.Common.{◌≡◌, true, false, [], ◌∷◌, ◌++◌, Option, Some, None, Result, Ok, Err, refl, sym, ap, ◌∙◌, subst, append-nil, eq-eqb}
use Rattle.std.specs.Prelude.{IfOk, IfSome}
use Rattle.std.proofs.lemmas.Bool.{both_ways, or_left}
use Rattle.std.proofs.lemmas.List.Folds.{list_any-append}
use Rattle.claim_gate.specs.Terms.{IsTermsOf, ForTerms}
use Rattle.journal.specs.Terms.{Terms}
use Rattle.journal.specs.Events.{is_take, has_take, IsJob}
use Rattle.journal.specs.Gate.{GateAt, Continues, Takes, LeadsTo}
use Rattle.journal.specs.Laws.{JobsAreStable}
use Rattle.journal.specs.declared.event.Event.TheVariants.{Take}
use Rattle.claim_gate.specs.Parts.{GateParts, at}
use Rattle.claim_gate.specs.Replies.{IsWorkOf, take_reply}
use Rattle.claim_gate.specs.declared.job.Job.{Job}
use Rattle.claim_gate.specs.declared.fault.TakeFault.{TakeFault}
use Rattle.claim_gate.specs.declared.reply.Taken.{Taken}
use Rattle.claim_gate.specs.declared.reply.Taken.TheVariants.{Stopped, Over, NothingReady, Work}
use Rattle.claim_gate.proofs.Journals.{any_now}
use Rattle.test_gate.specs.Words.{IsAtWork, IsLastJob, IsTaken}

-- a job in progress remains so in every state to which the old one leads
pub stays_at_work : JobsAreStable → (old new : GateParts) (job : Job) → LeadsTo old new → IsAtWork old job → IsAtWork new job
stays_at_work law old new job leads work =
    let before : (T : Terms) → GateAt = λ T. record { terms = T; journal = old.journal; stopped = false } in
    let following : (T : Terms) → GateAt = λ T. record { terms = T; journal = new.journal; stopped = false } in
    record {
      is_taken =
          ap (λ J. has_take J job.position) leads.journal.whole
          ∙ list_any-append (is_take job.position) old.journal leads.journal.rest
          ∙ or_left (has_take old.journal job.position) (has_take leads.journal.rest job.position) work.is_taken;
      its = λ T is.
          law (before T) (following T) job.position job.claim job.acc
          (record { terms = refl; journal = leads.journal; stop = λ s. absurd (both_ways false refl s) })
          (work.its T (subst (λ p. IsTermsOf p T) leads.terms is));
    }

-- a caller's job, if it has one, remains in progress
pub last_stays : JobsAreStable → (old new : GateParts) (job : Option Job) → LeadsTo old new → IfSome job (IsAtWork old) → IfSome job (IsAtWork new)
last_stays law old new None leads work = tt
last_stays law old new (Some job) leads work = stays_at_work law old new job leads work

-- a job that is taken is in progress
at_work : JobsAreStable → (old new : GateParts) (job : Job) → ForTerms old.terms (λ T. IsJob T old.journal job.position job.claim job.acc)
    → new ≡ record old { journal = old.journal ++ Take job.position ∷ [] } → IsAtWork new job
at_work law old new job its is =
    let on : Continues old.journal (old.journal ++ Take job.position ∷ []) = record { rest = Take job.position ∷ []; whole = refl } in
    subst (λ g. IsAtWork g job) (sym is) (record {
      is_taken = any_now (is_take job.position) old.journal (Take job.position) (eq-eqb job.position job.position refl);
      its = λ T terms.
          law (record { terms = T; journal = old.journal; stopped = false })
          (record { terms = T; journal = old.journal ++ Take job.position ∷ []; stopped = false }) job.position job.claim job.acc
          (record { terms = refl; journal = on; stop = λ s. absurd (both_ways false refl s) })
          (its T terms);
    })

-- a job that a call of the sequential gate has taken is in progress
pub work_taken : JobsAreStable → (old new : GateParts) (reply : Result Taken TakeFault) → ForTerms old.terms (λ T. Takes (at T old) (take_reply reply) (at T new))
    → IfOk reply (IsWorkOf old new) → IfOk reply (IsTaken new)
work_taken law old new (Ok Stopped) went work = tt
work_taken law old new (Ok Over) went work = tt
work_taken law old new (Ok NothingReady) went work = tt
work_taken law old new (Ok (Work job)) went work = at_work law old new job (λ T is. (went T is).2.job) work
work_taken law old new (Err fault) went work = tt

-- a caller's last job after `take` is in progress
pub last_at_work : (gate : GateParts) (before last : Option Job) (reply : Result Taken TakeFault)
    → IfSome before (IsAtWork gate) → IfOk reply (IsTaken gate) → IsLastJob reply before last → IfSome last (IsAtWork gate)
last_at_work gate before last (Ok Stopped) work taken is = subst (λ (l : Option Job). IfSome l (IsAtWork gate)) (sym is) work
last_at_work gate before last (Ok Over) work taken is = subst (λ (l : Option Job). IfSome l (IsAtWork gate)) (sym is) work
last_at_work gate before last (Ok NothingReady) work taken is = subst (λ (l : Option Job). IfSome l (IsAtWork gate)) (sym is) work
last_at_work gate before last (Ok (Work job)) work taken is = subst (λ (l : Option Job). IfSome l (IsAtWork gate)) (sym is) taken
last_at_work gate before last (Err fault) work taken is = subst (λ (l : Option Job). IfSome l (IsAtWork gate)) (sym is) work

-- a stopped gate follows the one that was stopped
pub stop_leads : (old new : GateParts) → new ≡ record old { stopped = true } → LeadsTo old new
stop_leads old new is =
    subst (LeadsTo old) (sym is) (record {
      terms = refl;
      journal = record { rest = []; whole = sym (append-nil old.journal) };
      stop = λ s. λ i. record { terms = old.terms; journal = old.journal; stopped = sym s i };
    })
