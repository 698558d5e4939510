-- The errors of the command `value`, from their place to the caller.
use Rattle.std.proofs.Common.{◌≡◌, ◌≢◌, ℕ, ◌+◌, List, take, slice_get, Option, Some, Result, Err, IfErr, OnOk, sym, subst}
use Rattle.std.specs.Io.KnownBytes.{Appends}
use Rattle.std.proofs.lemmas.Result.{on_ok_weaker, IfErr-weaker}
use Rattle.faults.specs.declared.fault.Fault.{Fault}
use Rattle.faults.specs.declared.fault.Fault.TheVariants as faults
use Rattle.tables.specs.declared.inputs.Slot.{Slot}
use Rattle.faults.specs.declared.plan_fault.PlanCause.TheVariants as cause
use Rattle.faults.specs.declared.plan_fault.PlanFault.{PlanFault}
use Rattle.tables.specs.declared.table.InputData.{InputData}
use Rattle.tables.specs.Environment.{env}
use Rattle.tables.specs.HitPolicy.{IsFaultOf}
use Rattle.tables.specs.Inputs.{IsReady}
use Rattle.tables.specs.Plan.{PlanParts}
use Rattle.dtable.specs.PlanFile.{IsPlanText}
use Rattle.evaluation.specs.declared.stop.ArgumentFault.{ArgumentFault}
use Rattle.evaluation.specs.declared.stop.ValueStop.{ValueStop}
use Rattle.evaluation.specs.declared.stop.ValueStop.TheVariants as stop
use Rattle.evaluation.specs.Arguments.{Gives}
use Rattle.evaluation.specs.Stop.{IsArgumentFault, IsMemoryFault, IsStopOfArgument, IsStopOfPlan, IsStopOfTables, RefusesArguments, RefusesValue, RefusesText, RefusesPlan, PutsUntil, WritesText, WritesUntil}

-- the first argument that gives no value is the error
pub refuses_argument : (names : List InputData) (arguments : List (List ℕ)) (given : List Slot) (place : ℕ) (text : List ℕ) (fault : ArgumentFault) (s : ValueStop) → Gives names (take place arguments) given
    → slice_get arguments place ≡ Some text → (¬ IsMemoryFault fault → IsArgumentFault names given text fault) → IsStopOfArgument (place + 1) fault s → RefusesArguments names arguments s
refuses_argument names arguments given place text fault (stop.Argument number same) gives present is_fault made =
    let P : ArgumentFault → Type 0 = λ f. IsArgumentFault names given text f in
    record { place = place; counted = made.0; text = text; present = present; given = given; gives = gives; fault_is = subst P (sym made.1) (is_fault made.2) }
refuses_argument names arguments given place text fault stop.NoMemory gives present is_fault made = tt
refuses_argument names arguments given place text fault _ gives present is_fault made = absurd made

-- a fault of the plan is an error of a command that reads only a plan
pub refuses_spelling : (text : List ℕ) (fault : PlanFault) (s : ValueStop) → (fault.cause ≢ cause.OutOfMemory → (plan : PlanParts) → ¬ IsPlanText text plan) → IsStopOfPlan fault s → RefusesPlan text s
refuses_spelling text fault (stop.Plan same) none made =
    let P : PlanFault → Type 0 = λ f. f.cause ≢ cause.OutOfMemory in
    (subst P (sym made.0) made.1, none made.1)
refuses_spelling text fault stop.NoMemory none made = tt
refuses_spelling text fault _ none made = absurd made

-- it is an error of a command that also reads arguments
refuses_alike : (text : List ℕ) (arguments : List (List ℕ)) (s : ValueStop) → RefusesPlan text s → RefusesText text arguments s
refuses_alike text arguments (stop.Plan fault) refused = refused
refuses_alike text arguments stop.NoMemory refused = tt
refuses_alike text arguments _ refused = absurd refused

pub refuses_plan : (text : List ℕ) (arguments : List (List ℕ)) (fault : PlanFault) (s : ValueStop) → (fault.cause ≢ cause.OutOfMemory → (plan : PlanParts) → ¬ IsPlanText text plan)
    → IsStopOfPlan fault s → RefusesText text arguments s
refuses_plan text arguments fault s none made = refuses_alike text arguments s (refuses_spelling text fault s none made)

-- an error of the arguments for the plan is an error of the texts
pub refuses_spelled : (text : List ℕ) (arguments : List (List ℕ)) (plan : PlanParts) (s : ValueStop) → IsPlanText text plan → RefusesValue plan arguments s → RefusesText text arguments s
refuses_spelled text arguments plan (stop.Plan fault) spelled refused = absurd refused
refuses_spelled text arguments plan (stop.Write written) spelled refused = absurd refused
refuses_spelled text arguments plan stop.NoMemory spelled refused = tt
refuses_spelled text arguments plan _ spelled refused = (plan, spelled, refused)

-- an error of the arguments is an error for the plan
pub refuses_arguments : (arguments : List (List ℕ)) (plan : PlanParts) (s : ValueStop) → RefusesArguments plan.names arguments s → RefusesValue plan arguments s
refuses_arguments arguments plan (stop.Argument number fault) refused = refused
refuses_arguments arguments plan stop.NoMemory refused = tt
refuses_arguments arguments plan _ refused = absurd refused

-- a fault of the tables is an error for the plan
pub refuses_tables : (arguments : List (List ℕ)) (plan : PlanParts) (given : List Slot) (fault : Fault) (s : ValueStop) → Gives plan.names arguments given → IsReady plan.tables given
    → IsFaultOf (env plan given) fault → IsStopOfTables fault s → RefusesValue plan arguments s
refuses_tables arguments plan given fault (stop.Tables same) gives ready is_fault made =
    let equal : fault ≡ same = sym made.0 in
    let sound : fault ≢ faults.OutOfMemory = made.1 in
    let P : Fault → Type 0 = λ f. f ≢ faults.OutOfMemory in
    let Q : Fault → Type 0 = λ f. env plan given ≡ Err f in
    (given, gives, ready, subst P equal sound, subst Q equal (is_fault sound))
refuses_tables arguments plan given fault stop.NoMemory gives ready is_fault made = tt
refuses_tables arguments plan given fault _ gives ready is_fault made = absurd made

-- the bytes before a write fault are the first bytes of the text
pub writes_until : (IsText : List ℕ → Type 0) (text : List ℕ) (old new : Option (List ℕ)) (s : ValueStop) → IsText text → PutsUntil text old new s → WritesUntil IsText old new s
writes_until IsText text old new (stop.Write written) is_text put = record { text = text; is_text = is_text; cut = put.cut; appended = put.appended }
writes_until IsText text old new _ is_text put = absurd put

-- a text that is written whole is the output of the command
pub writes_whole : {X E : Type 0} (IsText : List ℕ → Type 0) (text : List ℕ) (old new : Option (List ℕ)) (r : Result X E) → IsText text → OnOk r (Appends old new text) → OnOk r (WritesText IsText old new)
writes_whole IsText text old new r is_text put = on_ok_weaker r (λ appended. record { text = text; is_text = is_text; appended = appended }) put

-- the written part of a text is a beginning of the command's output
pub writes_front : {X : Type 0} (IsText : List ℕ → Type 0) (text : List ℕ) (old new : Option (List ℕ)) (r : Result X ValueStop) → IsText text → IfErr r (PutsUntil text old new) → IfErr r (WritesUntil IsText old new)
writes_front IsText text old new r is_text put = IfErr-weaker r _ _ (λ s put_until. writes_until IsText text old new s is_text put_until) put
