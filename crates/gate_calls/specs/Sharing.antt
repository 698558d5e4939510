-- What the threads of a run have seen of the gate that they share.
use Rattle.std.specs.Prelude.{◌≡◌, ◌⊎◌, ◌<◌, ◌≤◌, ◌||◌, ℕ, Bool, true, List, Option, Some, None, length}
use Rattle.std.specs.List.{All}
use Rattle.tables.specs.Plan.{PlanParts}
use Rattle.journal.specs.Settled.{outcome_of}
use Rattle.gate_calls.specs.declared.worker.TakenJobs.{TakenJobs}
use Rattle.gate_calls.specs.declared.worker.TakenJobs.TheVariants as gathered
use Rattle.claim_gate.specs.declared.job.DecidedJob.{DecidedJob}
use Rattle.settlement.specs.Claim.{IsClaimOf}
use Rattle.journal.specs.Events.{IsJob, closed, has_decision, has_end, places, has_take}
use Rattle.journal.specs.Gate.{TakeReply, Takes}
use Rattle.journal.specs.Lawful.{Finished}
use Rattle.claim_gate.specs.Terms.{ForTerms}
use Rattle.claim_gate.specs.Parts.{GateParts}
use Rattle.claim_gate.specs.Shared.{Known, Went}
use Rattle.claim_gate.specs.declared.job.Job.{Job}
use Rattle.gate_calls.specs.declared.worker.Task.{Task}
use Rattle.gate_calls.specs.declared.worker.Task.TheVariants.{Over, Work, NothingReady}

-- at least this number of claims of the provider are accepted
abbrev pub HasAccepted : GateParts → ℕ → ℕ → Type 0
HasAccepted gate provider count = count ≤ length (places gate.journal provider)

-- no more claims are accepted and no more providers end: the gate is stopped, or its journal is closed
abbrev pub is_shut : GateParts → Bool
is_shut gate = gate.stopped || closed gate.journal

-- no more claims of this provider are accepted: the gate is shut, or the provider has ended
abbrev pub is_past : GateParts → ℕ → Bool
is_past gate provider = is_shut gate || has_end gate.journal provider

-- where an intake continues after the claim at a place: all claims before this later place are accepted, or no more will be
abbrev pub GoesOnAt : GateParts → ℕ → ℕ → Option ℕ → Type 0
GoesOnAt gate provider place (Some next) = (place < next) × HasAccepted gate provider next
GoesOnAt gate provider place None = is_shut gate ≡ true

-- the job's claim is taken and in work, and it has the fields that the plan needs
pub record IsInWork (gate : GateParts) (job : Job) : Type 0 where
  pub in_work : has_take gate.journal job.position ≡ true
  pub is_job : ForTerms gate.terms (λ T. IsJob T gate.journal job.position job.claim job.acc)
  pub fields : IsClaimOf gate.terms.plan job.claim

-- the caller's last section was a `take` of a gate that is not stopped, and on which no claim was ready
abbrev pub FoundNothing : Known → Type 0
FoundNothing known = Went (λ old new. Takes old TakeReply.NothingReady new) known

-- the next step of a worker is right: it leaves only after a finished journal, it decides only a claim in work, and it asks
-- again only where no claim was ready
abbrev pub IsTask : Known → Task → Type 0
IsTask known Over = ForTerms known.seen.terms (λ T. Finished T known.seen.journal)
IsTask known (Work job) = IsInWork known.seen job
IsTask known NothingReady = FoundNothing known

-- a claim in work with its outcome
pub record IsSettledIn (gate : GateParts) (settled : DecidedJob) : Type 0 where
  pub in_work : IsInWork gate settled.job
  pub value : settled.outcome ≡ outcome_of gate.terms.plan settled.job.claim settled.job.acc

-- the decision of the claim is in the journal
abbrev pub IsRecordedIn : GateParts → DecidedJob → Type 0
IsRecordedIn gate settled = has_decision gate.journal settled.job.position ≡ true

-- the claims of a worker's turn are in work, and the turn ended because it had its maximum of claims or no claim was ready
pub record AreTaken (limit : ℕ) (known : Known) (jobs : List Job) : Type 0 where
  pub in_work : All (IsInWork known.seen) jobs
  pub whole : (length jobs ≡ limit) ⊎ FoundNothing known

-- the result of a worker's calls in one turn: a finished journal, or at most `limit` claims in work
abbrev pub IsGathered : ℕ → Known → TakenJobs → Type 0
IsGathered limit known gathered.Over = ForTerms known.seen.terms (λ T. Finished T known.seen.journal)
IsGathered limit known (gathered.Jobs jobs) = AreTaken limit known jobs.items

-- a claim with its outcome under a plan
abbrev pub settled_by : PlanParts → Job → DecidedJob
settled_by plan job = record { job = job; outcome = outcome_of plan job.claim job.acc }
