-- The meaning of each error of `value` for the texts, its line on standard error, and its exit status. A command that reads only a plan has
-- some of these errors.
use Rattle.std.specs.Prelude.{◌≡◌, ◌≢◌, ℕ, ◌+◌, ◌<◌, ◌++◌, Bool, true, List, [], ◌∷◌, length, codes, decimal, Option, Some, None, Err, Contains, slice_get, take}
use Rattle.std.specs.Io.KnownBytes.{Appends, Keeps}
use Rattle.std.specs.Option.{option_map_or}
use Rattle.fixpoint.specs.Out.{PutsFront}
use Rattle.faults.specs.declared.cell_fault.CellFault.{CellFault}
use Rattle.faults.specs.declared.cell_fault.CellCause.TheVariants as cell
use Rattle.faults.specs.CellCauseNumber.{number_of as cell_cause_number}
use Rattle.feel_tests.specs.declared.value.Value.{Value}
use Rattle.feel_tests.specs.Cell.{SpellsValue}
use Rattle.faults.specs.declared.fault.Fault.{Fault}
use Rattle.faults.specs.declared.fault.Fault.TheVariants as faults
use Rattle.tables.specs.declared.inputs.Slot.{Slot}
use Rattle.faults.specs.declared.plan_fault.PlanCause.{PlanCause}
use Rattle.faults.specs.declared.plan_fault.PlanCause.TheVariants as cause
use Rattle.faults.specs.declared.plan_fault.PlanFault.{PlanFault}
use Rattle.tables.specs.declared.table.InputData.{InputData}
use Rattle.faults.specs.PlanCauseNumber.{number_of as plan_cause_number}
use Rattle.tables.specs.Environment.{env}
use Rattle.tables.specs.Inputs.{IsReady, value_at}
use Rattle.tables.specs.Plan.{PlanParts}
use Rattle.dtable.specs.PlanFile.{IsPlanText}
use Rattle.dtable.specs.Scope.{data_names}
use Rattle.faults.specs.ReasonText.{reason_text}
use Rattle.faults.specs.Reason.{reason_of}
use Rattle.evaluation.specs.declared.stop.ArgumentFault.{ArgumentFault}
use Rattle.evaluation.specs.declared.stop.ArgumentFault.TheVariants as argument
use Rattle.evaluation.specs.declared.stop.ValueStop.{ValueStop}
use Rattle.evaluation.specs.declared.stop.ValueStop.TheVariants as stop
use Rattle.evaluation.specs.Arguments.{equals_sign, IsSplit, NamesData, Gives, IsFirstMissing}
use Rattle.evaluation.specs.ValueText.{line_end}

-- the text ` cell K at B`
abbrev pub cell_fault_text : CellFault → List ℕ
cell_fault_text fault = codes " cell " ++ (decimal (cell_cause_number fault.cause) ++ (codes " at " ++ decimal fault.at))

-- the text ` cell K at B` if a fault of a plan is a fault of a cell, and otherwise no text
abbrev pub plan_cause_text : PlanCause → List ℕ
plan_cause_text (cause.Cell fault) = cell_fault_text fault
plan_cause_text _ = []

-- the text `plan fault N table T rule R column C`, followed by ` cell K at B` for a fault of a cell
abbrev pub plan_fault_text : PlanFault → List ℕ
plan_fault_text fault =
    codes "plan fault " ++ (decimal (plan_cause_number fault.cause) ++ (codes " table " ++ (decimal fault.table
    ++ (codes " rule " ++ (decimal fault.rule ++ (codes " column " ++ (decimal fault.column ++ plan_cause_text fault.cause)))))))

-- the number of an argument's fault
abbrev pub argument_fault_number : ArgumentFault → ℕ
argument_fault_number argument.NoEquals = 1
argument_fault_number argument.UnknownName = 2
argument_fault_number argument.RepeatedName = 3
argument_fault_number (argument.Literal fault) = 4

-- the text ` cell K at B` if a fault of an argument is a fault of its literal, and otherwise no text
abbrev pub argument_cell_text : ArgumentFault → List ℕ
argument_cell_text (argument.Literal fault) = cell_fault_text fault
argument_cell_text _ = []

-- the text `argument K fault N`, followed by ` cell K at B` for a fault of a literal
abbrev pub argument_fault_text : ℕ → ArgumentFault → List ℕ
argument_fault_text number fault =
    codes "argument " ++ (decimal number ++ (codes " fault " ++ (decimal (argument_fault_number fault) ++ argument_cell_text fault)))

-- the reason of a fault of the tables, as it is printed for a claim; a lack of memory is not such a reason
abbrev pub fault_text : Fault → List ℕ
fault_text fault = option_map_or reason_text (reason_of fault) (codes "memory")

-- the text of an error
abbrev pub stop_text : ValueStop → List ℕ
stop_text (stop.Plan fault) = plan_fault_text fault
stop_text (stop.Argument number fault) = argument_fault_text number fault
stop_text (stop.Missing name) = codes "missing " ++ name
stop_text (stop.Tables fault) = codes "fault " ++ fault_text fault
stop_text (stop.Write written) = codes "write fault at " ++ decimal written
stop_text stop.NoMemory = codes "no memory"

-- the line of an error
abbrev pub stop_line : ValueStop → List ℕ
stop_line s = stop_text s ++ line_end ∷ []

-- the exit status: 1 for invalid input, 3 for a missing resource
abbrev pub status_of : ValueStop → ℕ
status_of (stop.Plan fault) = 1
status_of (stop.Argument number fault) = 1
status_of (stop.Missing name) = 1
status_of (stop.Tables fault) = 1
status_of (stop.Write written) = 3
status_of stop.NoMemory = 3

-- the reason why an argument gives no value after the earlier arguments; the faults are checked in this order
abbrev pub IsArgumentFault : List InputData → List Slot → List ℕ → ArgumentFault → Type 0
IsArgumentFault names given text argument.NoEquals = ¬ Contains text equals_sign
IsArgumentFault names given text argument.UnknownName = (name : List ℕ) × (literal : List ℕ) × IsSplit text name literal × ¬ Contains (data_names names) name
IsArgumentFault names given text argument.RepeatedName =
    (place : ℕ) × (input : InputData) × (literal : List ℕ) × (value : Value) × NamesData names text place input literal × (value_at given place ≡ Some value)
IsArgumentFault names given text (argument.Literal fault) =
    (place : ℕ) × (input : InputData) × (literal : List ℕ) × NamesData names text place input literal × (value_at given place ≡ None)
    × (fault.cause ≢ cell.OutOfMemory) × ((value : Value) → ¬ SpellsValue input.kind literal value)

-- the argument with this number is the first that gives no value, and this is the reason
pub record IsFirstBadArgument (names : List InputData) (arguments : List (List ℕ)) (number : ℕ) (fault : ArgumentFault) : Type 0 where
  pub place : ℕ
  pub counted : number ≡ place + 1
  pub text : List ℕ
  pub present : slice_get arguments place ≡ Some text
  pub given : List Slot
  pub gives : Gives names (take place arguments) given
  pub fault_is : IsArgumentFault names given text fault

-- the error can occur for a plan and these arguments; memory can run out for any arguments
abbrev pub RefusesValue : PlanParts → List (List ℕ) → ValueStop → Type 0
RefusesValue plan arguments (stop.Argument number fault) = IsFirstBadArgument plan.names arguments number fault
RefusesValue plan arguments (stop.Missing name) = (given : List Slot) × Gives plan.names arguments given × IsFirstMissing plan.names plan.tables given name
RefusesValue plan arguments (stop.Tables fault) =
    (given : List Slot) × Gives plan.names arguments given × IsReady plan.tables given × (fault ≢ faults.OutOfMemory) × (env plan given ≡ Err fault)
RefusesValue plan arguments stop.NoMemory = Unit {0}
RefusesValue plan arguments _ = ⊥

-- the error can occur for the plan that the plan's text denotes and these arguments
abbrev pub RefusesSpelled : List ℕ → List (List ℕ) → ValueStop → Type 0
RefusesSpelled plan_text arguments s = (plan : PlanParts) × IsPlanText plan_text plan × RefusesValue plan arguments s

-- the plan's text denotes no plan; a lack of memory while it is read is another error
abbrev pub SpellsNoPlan : List ℕ → PlanFault → Type 0
SpellsNoPlan plan_text fault = (fault.cause ≢ cause.OutOfMemory) × ((plan : PlanParts) → ¬ IsPlanText plan_text plan)

-- the error can occur for these texts: an error about the texts has its cause in them, and the other errors can occur for any texts
abbrev pub IsReason : List ℕ → List (List ℕ) → ValueStop → Type 0
IsReason plan_text arguments (stop.Plan fault) = SpellsNoPlan plan_text fault
IsReason plan_text arguments (stop.Write written) = Unit {0}
IsReason plan_text arguments stop.NoMemory = Unit {0}
IsReason plan_text arguments s = RefusesSpelled plan_text arguments s

-- the error can occur for this plan's text in a command that reads nothing else
abbrev pub IsPlanReason : List ℕ → ValueStop → Type 0
IsPlanReason plan_text (stop.Plan fault) = SpellsNoPlan plan_text fault
IsPlanReason plan_text (stop.Write written) = Unit {0}
IsPlanReason plan_text stop.NoMemory = Unit {0}
IsPlanReason plan_text _ = ⊥

-- the bytes that the writer has received after a command: a text that the command may print
pub record WritesText (IsText : List ℕ → Type 0) (old new : Option (List ℕ)) : Type 0 where
  pub text : List ℕ
  pub is_text : IsText text
  pub appended : Appends old new text

-- the writer has received exactly the first `written` bytes of such a text, which are not all of its bytes
pub record WritesFront (IsText : List ℕ → Type 0) (old new : Option (List ℕ)) (written : ℕ) : Type 0 where
  pub text : List ℕ
  pub is_text : IsText text
  pub cut : written < length text
  pub appended : Appends old new (take written text)

-- the bytes that the writer has received before an error: the first bytes of the text before a write fault, and otherwise nothing
abbrev pub WritesUntil : (List ℕ → Type 0) → Option (List ℕ) → Option (List ℕ) → ValueStop → Type 0
WritesUntil IsText old new (stop.Write written) = WritesFront IsText old new written
WritesUntil IsText old new _ = Keeps old new

-- whether the writer has failed after an error: it has after a write fault, and other errors leave it unchanged
abbrev pub failed_after : Bool → ValueStop → Bool
failed_after before (stop.Write written) = true
failed_after before _ = before

-- the error for a fault of the plan's text; a lack of memory is not a fault of the text
abbrev pub IsStopOfPlan : PlanFault → ValueStop → Type 0
IsStopOfPlan fault (stop.Plan same) = (same ≡ fault) × (fault.cause ≢ cause.OutOfMemory)
IsStopOfPlan fault stop.NoMemory = fault.cause ≡ cause.OutOfMemory
IsStopOfPlan fault _ = ⊥

-- the error for a fault of the tables; a lack of memory is not a fault of the tables
abbrev pub IsStopOfTables : Fault → ValueStop → Type 0
IsStopOfTables fault (stop.Tables same) = (same ≡ fault) × (fault ≢ faults.OutOfMemory)
IsStopOfTables fault stop.NoMemory = fault ≡ faults.OutOfMemory
IsStopOfTables fault _ = ⊥

-- the fault is a lack of memory while the argument's literal was read
abbrev pub IsMemoryFault : ArgumentFault → Type 0
IsMemoryFault argument.NoEquals = ⊥
IsMemoryFault argument.UnknownName = ⊥
IsMemoryFault argument.RepeatedName = ⊥
IsMemoryFault (argument.Literal fault) = fault.cause ≡ cell.OutOfMemory

-- the error for a fault of the argument with this number; a lack of memory is not a fault of the argument
abbrev pub IsStopOfArgument : ℕ → ArgumentFault → ValueStop → Type 0
IsStopOfArgument number fault (stop.Argument same_number same) = (same_number ≡ number) × (same ≡ fault) × ¬ IsMemoryFault fault
IsStopOfArgument number fault stop.NoMemory = IsMemoryFault fault
IsStopOfArgument number fault _ = ⊥

-- an error of the arguments, before the tables are evaluated
abbrev pub RefusesArguments : List InputData → List (List ℕ) → ValueStop → Type 0
RefusesArguments names arguments (stop.Argument number fault) = IsFirstBadArgument names arguments number fault
RefusesArguments names arguments stop.NoMemory = Unit {0}
RefusesArguments names arguments _ = ⊥

-- an error of the texts, or a lack of memory: the errors of `value` before it writes
abbrev pub RefusesText : List ℕ → List (List ℕ) → ValueStop → Type 0
RefusesText plan_text arguments (stop.Write written) = ⊥
RefusesText plan_text arguments s = IsReason plan_text arguments s

-- the errors of a command that reads only a plan, before it writes
abbrev pub RefusesPlan : List ℕ → ValueStop → Type 0
RefusesPlan plan_text (stop.Write written) = ⊥
RefusesPlan plan_text s = IsPlanReason plan_text s

-- a write fault within a text, whose first bytes the writer has received
abbrev pub PutsUntil : List ℕ → Option (List ℕ) → Option (List ℕ) → ValueStop → Type 0
PutsUntil text old new (stop.Write written) = PutsFront text written old new
PutsUntil text old new _ = ⊥
