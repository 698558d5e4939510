-- The errors of a command that reads only a plan, by the lemmas of `evaluation`.
use Rattle.std.proofs.Common.{◌≢◌, ℕ, List, Option, Result, IfErr, OnOk}
use Rattle.std.specs.Io.KnownBytes.{Appends}
use Rattle.faults.specs.declared.plan_fault.PlanCause.TheVariants as cause
use Rattle.faults.specs.declared.plan_fault.PlanFault.{PlanFault}
use Rattle.tables.specs.Plan.{PlanParts}
use Rattle.dtable.specs.PlanFile.{IsPlanText}
use Rattle.evaluation.specs.declared.stop.ValueStop.{ValueStop}
use Rattle.evaluation.specs.Stop.{IsStopOfPlan, RefusesPlan, PutsUntil, WritesText, WritesUntil}
use Rattle.evaluation.proofs.Refusals as value

-- a fault of the plan is an error of a command that reads only a plan
pub refuses_spelling : (text : List ℕ) (fault : PlanFault) (s : ValueStop) → (fault.cause ≢ cause.OutOfMemory → (plan : PlanParts) → ¬ IsPlanText text plan) → IsStopOfPlan fault s → RefusesPlan text s
refuses_spelling = value.refuses_spelling

-- a text that is written whole is the output of the command
pub writes_whole : {X E : Type 0} (IsText : List ℕ → Type 0) (text : List ℕ) (old new : Option (List ℕ)) (r : Result X E) → IsText text → OnOk r (Appends old new text) → OnOk r (WritesText IsText old new)
writes_whole = value.writes_whole

-- the written part of a text is a beginning of the command's output
pub writes_front : {X : Type 0} (IsText : List ℕ → Type 0) (text : List ℕ) (old new : Option (List ℕ)) (r : Result X ValueStop) → IsText text → IfErr r (PutsUntil text old new) → IfErr r (WritesUntil IsText old new)
writes_front = value.writes_front
