-- The claims in work that a worker holds stay in work in each later state of the gate.
use Rattle.std.proofs.Common.{◌≡◌, Bool, true, List, [], ◌∷◌, ◌++◌, map, Result, Ok, Err, sym, ap, subst, ◌∙◌, append_assoc}
use Rattle.std.specs.Prelude.{IfOk}
use Rattle.std.specs.List.{All, list_any}
use Rattle.std.proofs.lemmas.Bool.{or_left}
use Rattle.std.proofs.lemmas.List.Elements.{All-map, All-weaker}
use Rattle.std.proofs.lemmas.List.Folds.{list_any-append}
use Rattle.settlement.specs.Claim.{IsClaimOf}
use Rattle.settlement.specs.Settlement.{outcome}
use Rattle.settlement.specs.declared.outcome.Outcome.{Outcome}
use Rattle.tables.specs.Plan.{PlanParts}
use Rattle.journal.specs.Events.{is_decide, is_take}
use Rattle.journal.specs.Gate.{Continues, LeadsTo}
use Rattle.journal.specs.Laws.{JobsAreStable}
use Rattle.journal.specs.Settled.{outcome_of}
use Rattle.journal.specs.declared.event.Event.{Event}
use Rattle.claim_gate.specs.Parts.{GateParts}
use Rattle.claim_gate.specs.declared.job.Job.{Job}
use Rattle.claim_gate.proofs.Sharing.{job_stays}
use Rattle.claim_gate.specs.Shared.{Known}
use Rattle.gate_calls.specs.Sharing.{IsInWork, IsRecordedIn, IsSettledIn, settled_by}
use Rattle.gate_calls.specs.declared.shared.Onward.{Onward}
use Rattle.gate_calls.specs.declared.worker.TakenJobs.{TakenJobs}
use Rattle.claim_gate.specs.declared.job.DecidedJob.{DecidedJob}

-- if an event of a journal passes a test, so does an event of each journal that continues it
pub any_goes_on : (test : Event → Bool) (J K : List Event) → Continues J K → list_any test J ≡ true → list_any test K ≡ true
any_goes_on test J K on is = ap (list_any test) on.whole ∙ list_any-append test J on.rest ∙ or_left (list_any test J) (list_any test on.rest) is

-- a claim in work stays in work
pub in_work_stays : JobsAreStable → (a b : GateParts) (job : Job) → LeadsTo a b → IsInWork a job → IsInWork b job
in_work_stays stay a b job leads w = record {
  in_work = any_goes_on (is_take job.position) a.journal b.journal leads.journal w.in_work;
  is_job = job_stays stay a b job.position job.claim job.acc leads w.is_job;
  fields = subst (λ terms. IsClaimOf terms.plan job.claim) (sym leads.terms) w.fields;
}

-- a claim in work with its outcome stays in work
pub settled_stays : JobsAreStable → (a b : GateParts) (settled : DecidedJob) → LeadsTo a b → IsSettledIn a settled → IsSettledIn b settled
settled_stays stay a b settled leads s = record {
  in_work = in_work_stays stay a b settled.job leads s.in_work;
  value = s.value ∙ ap (λ terms. outcome_of terms.plan settled.job.claim settled.job.acc) (sym leads.terms);
}

-- all claims in work stay in work
pub all_in_work_stay : JobsAreStable → (a b : GateParts) (jobs : List Job) → LeadsTo a b → All (IsInWork a) jobs → All (IsInWork b) jobs
all_in_work_stay stay a b jobs leads all = All-weaker (IsInWork a) (IsInWork b) (λ job w. in_work_stays stay a b job leads w) jobs all

pub all_settled_stay : JobsAreStable → (a b : GateParts) (settled : List DecidedJob) → LeadsTo a b → All (IsSettledIn a) settled → All (IsSettledIn b) settled
all_settled_stay stay a b settled leads all = All-weaker (IsSettledIn a) (IsSettledIn b) (λ one s. settled_stays stay a b one leads s) settled all

-- a decision that is recorded stays recorded
pub recorded_stays : (a b : GateParts) (settled : DecidedJob) → LeadsTo a b → IsRecordedIn a settled → IsRecordedIn b settled
recorded_stays a b settled leads is = any_goes_on (is_decide settled.job.position) a.journal b.journal leads.journal is

pub all_recorded_stay : (a b : GateParts) (settled : List DecidedJob) → LeadsTo a b → All (IsRecordedIn a) settled → All (IsRecordedIn b) settled
all_recorded_stay a b settled leads all = All-weaker (IsRecordedIn a) (IsRecordedIn b) (λ one is. recorded_stays a b one leads is) settled all

pub all_recorded_beside : {P E : Type 0} (known : P → Known) (a : GateParts) (settled : List DecidedJob) (answer : Result (Onward TakenJobs P) E)
    → All (IsRecordedIn a) settled → IfOk answer (λ r. LeadsTo a (known r.pass).seen) → IfOk answer (λ r. All (IsRecordedIn (known r.pass).seen) settled)
all_recorded_beside known a settled (Ok r) all leads = all_recorded_stay a (known r.pass).seen settled leads all
all_recorded_beside known a settled (Err exit) all leads = tt

-- claims in work with their outcomes under the plan are settled claims in work
pub all_settled : (gate : GateParts) (plan : PlanParts) (jobs : List Job) → plan ≡ gate.terms.plan → All (IsInWork gate) jobs → All (IsSettledIn gate) (map (settled_by plan) jobs)
all_settled gate plan jobs is all =
    All-map (IsSettledIn gate) (settled_by plan) jobs
    (All-weaker (IsInWork gate) (λ job. IsSettledIn gate (settled_by plan job))
    (λ job w. record { in_work = w; value = ap (λ p. outcome_of p job.claim job.acc) is }) jobs all)

-- claims in work have the plan's fields
pub all_have_fields : (gate : GateParts) (plan : PlanParts) (jobs : List Job) → plan ≡ gate.terms.plan → All (IsInWork gate) jobs → All (λ job. IsClaimOf plan job.claim) jobs
all_have_fields gate plan jobs is all =
    All-weaker (IsInWork gate) (λ job. IsClaimOf plan job.claim) (λ job w. subst (λ p. IsClaimOf p job.claim) (sym is) w.fields) jobs all

-- when a list is mapped item by item, one more item moves from the rest to the results
pub one_more : {X Y : Type 0} (f : X → Y) (done : List Y) (items rest : List X) (x : X) (y : Y) (all : List Y) → items ≡ x ∷ rest → y ≡ f x
    → done ++ map f items ≡ all → (done ++ y ∷ []) ++ map f rest ≡ all
one_more f done items rest x y all steps is whole =
    append_assoc done (y ∷ []) (map f rest) ∙ ap (λ z. done ++ z ∷ map f rest) is ∙ sym (ap (λ xs. done ++ map f xs) steps) ∙ whole

-- a job with the outcome of its claim is the settled job under the plan
pub settled_is : (plan same : PlanParts) (job : Job) (o : Outcome) (settled : DecidedJob) → settled ≡ record { job = job; outcome = o } → o ≡ outcome plan job.claim job.acc → plan ≡ same
    → settled ≡ settled_by same job
unfolding outcome_of
settled_is plan same job o settled made is plan_is =
    made ∙ ap (λ x. record { job = job; outcome = x }) (is ∙ ap (λ p. outcome p job.claim job.acc) plan_is)
