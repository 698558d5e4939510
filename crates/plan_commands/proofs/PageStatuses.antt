-- The exit statuses of the commands that show a plan.
use Rattle.std.proofs.Common.{◌≡◌, ◌≢◌, ◌⊎◌, inl, inr, ℕ, List, Result, Ok, Err, OnErr, OnOk, subst}
use Rattle.clap.specs.declared.parser.matches.ArgMatches.{ArgMatches}
use Rattle.faults.specs.declared.plan_fault.PlanCause.TheVariants as cause
use Rattle.faults.specs.declared.plan_fault.PlanFault.{PlanFault}
use Rattle.tables.specs.Plan.{PlanParts}
use Rattle.dtable.specs.PlanFile.{IsPlanText}
use Rattle.evaluation.specs.declared.stop.ValueStop.{ValueStop}
use Rattle.evaluation.specs.declared.stop.ValueStop.TheVariants as value
use Rattle.evaluation.specs.Stop.{IsPlanReason, IsStopOfPlan, RefusesPlan}
use Rattle.evaluation.proofs.Refusals.{refuses_spelling}
use Rattle.console.specs.declared.exit_status.ExitStatus.{ExitStatus}
use Rattle.console.specs.declared.exit_status.ExitStatus.TheVariants.{Done, Refused}
use Rattle.value_command.specs.Ends.{IsStatusOfRefusal}
use Rattle.value_command.specs.Texts.{IsNamedPlan, Whole}
use Rattle.plan_commands.specs.Pages.{DenotesPlan, IsNamedOld, IsRefusedBeside, PageIsDone, PageIsRefused, PageIsRefusedBeside}

-- a page that was made is of a plan
pub shown_done : {E : Type 0} (Denotes : Type 0) (answer : Result (Unit {0}) E) (status : ExitStatus) → OnOk answer Denotes → OnErr answer (status ≢ Done) → status ≡ Done → Denotes
shown_done Denotes (Ok done) status denotes refused is_done = denotes
shown_done Denotes (Err s) status denotes refused is_done = absurd (refused is_done)

pub denotes : (text : List ℕ) (plan : PlanParts) → IsPlanText text plan → DenotesPlan text
denotes text plan spelled = record { plan = plan; spelled = spelled }

reason_of : (text : List ℕ) (s : ValueStop) → RefusesPlan text s → IsPlanReason text s
reason_of text (value.Plan fault) refused = refused
reason_of text value.NoMemory refused = refused
reason_of text _ refused = absurd refused

-- a fault of the plan's text is the reason of the error
pub spelling_refuses : (text : List ℕ) (fault : PlanFault) (s : ValueStop) → (fault.cause ≢ cause.OutOfMemory → (plan : PlanParts) → ¬ IsPlanText text plan) → IsStopOfPlan fault s
    → IsPlanReason text s
spelling_refuses text fault s none made = reason_of text s (refuses_spelling text fault s none made)

-- the named plan is shown
pub page_done : (whole : Whole) (words : ArgMatches) (plan given : List ℕ) (status : ExitStatus) → IsNamedPlan whole words plan → given ≡ plan → (status ≡ Done → DenotesPlan given)
    → status ≡ Done → PageIsDone whole words
page_done whole words plan given status named same done is_done = record { plan = plan; named = named; denotes = subst DenotesPlan same (done is_done) }

pub page_refused : (whole : Whole) (words : ArgMatches) (plan given : List ℕ) (status : ExitStatus) → IsNamedPlan whole words plan → given ≡ plan
    → (status ≢ Done → IsStatusOfRefusal (IsPlanReason given) status) → status ≡ Refused → PageIsRefused whole words status
page_refused whole words plan given status named same refused is_refused =
    record { plan = plan; named = named; refused = subst (λ text. IsStatusOfRefusal (IsPlanReason text) status) same (refused (λ is_done. cc (is_done, is_refused))) }

pub beside_refused : (whole : Whole) (words : ArgMatches) (plan given : List ℕ) (status : ExitStatus) → IsNamedPlan whole words plan → given ≡ plan
    → (status ≡ Refused → IsRefusedBeside whole words given status) → status ≡ Refused → PageIsRefusedBeside whole words status
beside_refused whole words plan given status named same refused is_refused = elim (refused is_refused) [
  | inl reason ↦ inl (record { plan = plan; named = named; refused = subst (λ text. IsStatusOfRefusal (IsPlanReason text) status) same reason })
  | inr old ↦ inr old
]

-- a plan without another beside it
pub refused_alone : (whole : Whole) (words : ArgMatches) (plan : List ℕ) (status : ExitStatus) → (status ≢ Done → IsStatusOfRefusal (IsPlanReason plan) status) → status ≡ Refused
    → IsRefusedBeside whole words plan status
refused_alone whole words plan status refused is_refused = inl (refused (λ is_done. cc (is_done, is_refused)))

-- a plan beside the named old one
pub refused_beside : (whole : Whole) (words : ArgMatches) (plan old given : List ℕ) (status : ExitStatus) → IsNamedOld whole words old → given ≡ old
    → (status ≢ Done → IsStatusOfRefusal (IsPlanReason plan) status ⊎ IsStatusOfRefusal (IsPlanReason given) status) → status ≡ Refused → IsRefusedBeside whole words plan status
refused_beside whole words plan old given status named same refused is_refused = elim (refused (λ is_done. cc (is_done, is_refused))) [
  | inl reason ↦ inl reason
  | inr reason ↦ inr (record { old = old; named = named; refused = subst (λ text. IsStatusOfRefusal (IsPlanReason text) status) same reason })
]
