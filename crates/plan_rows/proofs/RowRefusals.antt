-- The errors of the command `value` over the rows of a file, from their place to the caller.
use Rattle.std.proofs.Common.{◌≡◌, ◌≢◌, ℕ, Bool, List, Option, refl, sym, subst}
use Rattle.std.specs.Io.KnownBytes.{Appends}
use Rattle.fixpoint.specs.Out.{PutsFront}
use Rattle.faults.specs.declared.plan_fault.PlanCause.TheVariants as cause
use Rattle.faults.specs.declared.plan_fault.PlanFault.{PlanFault}
use Rattle.tables.specs.Plan.{PlanParts}
use Rattle.dtable.specs.PlanFile.{IsPlanText}
use Rattle.evaluation.specs.declared.stop.ValueStop.TheVariants as value
use Rattle.evaluation.specs.Stop.{WritesFront, WritesText}
use Rattle.plan_rows.specs.declared.rows_stop.RowsStop.{RowsStop}
use Rattle.plan_rows.specs.declared.rows_stop.RowsStop.TheVariants.{Value}
use Rattle.plan_rows.specs.RowsStop.{IsReason, IsStopOfPlan, RefusesTexts, WritesUntil, failed_after}
use Rattle.plan_rows.specs.ValuedRows.{IsRowsText}
use Rattle.plan_rows.proofs.Refusals.{keeps_itself}

-- a fault of the plan is an error of the texts
pub refuses_plan : (text rows : List ℕ) (fault : PlanFault) (s : RowsStop) → (fault.cause ≢ cause.OutOfMemory → (plan : PlanParts) → ¬ IsPlanText text plan) → IsStopOfPlan fault s
    → RefusesTexts text rows s
refuses_plan text rows fault (Value (value.Plan same)) none made =
    let P : PlanFault → Type 0 = λ f. f.cause ≢ cause.OutOfMemory in
    (subst P (sym made.0) made.1, none made.1)
refuses_plan text rows fault (Value value.NoMemory) none made = tt
refuses_plan text rows fault _ none made = absurd made

-- an error before the first byte is written is an error of the command
pub refused_is_reason : (text rows : List ℕ) (s : RowsStop) → RefusesTexts text rows s → IsReason text rows s
refused_is_reason text rows (Value (value.Write written)) refused = absurd refused
refused_is_reason text rows s refused = refused

-- nothing is written before such an error
pub refused_keeps : (text rows : List ℕ) (IsText : List ℕ → Type 0) (old : Option (List ℕ)) (s : RowsStop) → RefusesTexts text rows s → WritesUntil IsText old old s
refused_keeps text rows IsText old (Value (value.Write written)) refused = absurd refused
refused_keeps text rows IsText old s refused = keeps_itself old

-- the writer has not failed after such an error unless it had failed before
pub refused_unfailed : (text rows : List ℕ) (before : Bool) (s : RowsStop) → RefusesTexts text rows s → before ≡ failed_after before s
refused_unfailed text rows before (Value (value.Write written)) refused = absurd refused
refused_unfailed text rows before s refused = refl

-- a whole text is written
pub writes_rows : (text rows bytes : List ℕ) (old new : Option (List ℕ)) → IsRowsText text rows bytes → Appends old new bytes → WritesText (IsRowsText text rows) old new
writes_rows text rows bytes old new is_text appended = record { text = bytes; is_text = is_text; appended = appended }

-- the first bytes of a text are written
pub writes_front : (text rows bytes : List ℕ) (written : ℕ) (old new : Option (List ℕ)) → IsRowsText text rows bytes → PutsFront bytes written old new
    → WritesFront (IsRowsText text rows) old new written
writes_front text rows bytes written old new is_text put = record { text = bytes; is_text = is_text; cut = put.cut; appended = put.appended }
