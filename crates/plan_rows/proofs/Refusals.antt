-- The errors of the command `test`, from their place to the caller.
use Rattle.std.proofs.Common.{◌≡◌, ◌≢◌, ℕ, Bool, List, Option, None, Some, refl, sym, subst}
use Rattle.std.specs.Io.KnownBytes.{Appends, Keeps}
use Rattle.fixpoint.specs.Out.{PutsFront}
use Rattle.faults.specs.declared.plan_fault.PlanCause.TheVariants as cause
use Rattle.faults.specs.declared.plan_fault.PlanFault.{PlanFault}
use Rattle.tables.specs.Plan.{PlanParts}
use Rattle.dtable.specs.PlanFile.{IsPlanText}
use Rattle.evaluation.specs.declared.stop.ValueStop.TheVariants as value
use Rattle.evaluation.specs.Stop.{WritesFront, WritesText}
use Rattle.plan_rows.specs.declared.stop.TestStop.{TestStop}
use Rattle.plan_rows.specs.declared.stop.TestStop.TheVariants.{Value}
use Rattle.plan_rows.specs.declared.testing.Tested.{Tested}
use Rattle.plan_rows.specs.Report.{IsSomeTestText, IsTestText}
use Rattle.plan_rows.specs.Stop.{IsReason, IsStopOfPlan, RefusesTexts, WritesUntil, failed_after}

-- a fault of the plan is an error of the texts
pub refuses_plan : (text cases : List ℕ) (fault : PlanFault) (s : TestStop) → (fault.cause ≢ cause.OutOfMemory → (plan : PlanParts) → ¬ IsPlanText text plan) → IsStopOfPlan fault s
    → RefusesTexts text cases s
refuses_plan text cases fault (Value (value.Plan same)) none made =
    let P : PlanFault → Type 0 = λ f. f.cause ≢ cause.OutOfMemory in
    (subst P (sym made.0) made.1, none made.1)
refuses_plan text cases fault (Value value.NoMemory) none made = tt
refuses_plan text cases fault _ none made = absurd made

-- an error before the first byte is written is an error of the command
pub refused_is_reason : (text cases : List ℕ) (s : TestStop) → RefusesTexts text cases s → IsReason text cases s
refused_is_reason text cases (Value (value.Write written)) refused = absurd refused
refused_is_reason text cases s refused = refused

pub keeps_itself : (old : Option (List ℕ)) → Keeps old old
keeps_itself None = tt
keeps_itself (Some bytes) = refl

-- nothing is written before such an error
pub refused_keeps : (text cases : List ℕ) (IsText : List ℕ → Type 0) (old : Option (List ℕ)) (s : TestStop) → RefusesTexts text cases s → WritesUntil IsText old old s
refused_keeps text cases IsText old (Value (value.Write written)) refused = absurd refused
refused_keeps text cases IsText old s refused = keeps_itself old

-- the writer has not failed after such an error unless it had failed before
pub refused_unfailed : (text cases : List ℕ) (before : Bool) (s : TestStop) → RefusesTexts text cases s → before ≡ failed_after before s
refused_unfailed text cases before (Value (value.Write written)) refused = absurd refused
refused_unfailed text cases before s refused = refl

-- a whole text is written
pub writes_test : (text cases : List ℕ) (tested : Tested) (bytes : List ℕ) (old new : Option (List ℕ)) → IsTestText text cases tested bytes → Appends old new bytes
    → WritesText (IsTestText text cases tested) old new
writes_test text cases tested bytes old new is_text appended = record { text = bytes; is_text = is_text; appended = appended }

-- the first bytes of a text are written
pub writes_front : (text cases : List ℕ) (tested : Tested) (bytes : List ℕ) (written : ℕ) (old new : Option (List ℕ)) → IsTestText text cases tested bytes → PutsFront bytes written old new
    → WritesFront (IsSomeTestText text cases) old new written
writes_front text cases tested bytes written old new is_text put = record { text = bytes; is_text = (tested, is_text); cut = put.cut; appended = put.appended }
