-- The meaning of each error for the texts, its line on standard error, and its exit status. `value` defines them for its own errors.
use Rattle.std.specs.Prelude.{◌≡◌, ◌≢◌, ℕ, ◌++◌, Bool, List, [], ◌∷◌, codes, decimal, Option}
use Rattle.std.specs.Io.KnownBytes.{Keeps}
use Rattle.faults.specs.declared.plan_fault.PlanFault.{PlanFault}
use Rattle.faults.specs.declared.file_fault.BalanceFault.{BalanceFault}
use Rattle.faults.specs.declared.file_fault.BalanceFault.TheVariants as balance
use Rattle.faults.specs.declared.file_fault.RowFault.{RowFault}
use Rattle.faults.specs.FileFaultNumber.{cause_number_of as row_cause_number, file_number_of as file_number}
use Rattle.faults.specs.TermsFaultNumber.{number_of as terms_number}
use Rattle.faults.specs.declared.terms_fault.TermsFault.{TermsFault}
use Rattle.faults.specs.declared.terms_fault.TermsFault.TheVariants as terms
use Rattle.faults.specs.RunFaultNumber.{number_of as run_number}
use Rattle.faults.specs.declared.run_fault.RunFault.{RunFault}
use Rattle.faults.specs.declared.run_fault.RunFault.TheVariants as run
use Rattle.faults.specs.declared.write_fault.WriteCause.TheVariants as write
use Rattle.faults.specs.declared.write_fault.WriteFault.{WriteFault}
use Rattle.evaluation.specs.declared.stop.ValueStop.{ValueStop}
use Rattle.evaluation.specs.declared.stop.ValueStop.TheVariants as value
use Rattle.evaluation.specs.Stop.{IsPlanReason as IsPlanReasonOfValue, IsReason as IsReasonOfValue, IsStopOfPlan as IsValueStopOfPlan, WritesUntil as WritesUntilValueStop, failed_after as failed_after_value, status_of as status_of_value, stop_text as value_stop_text}
use Rattle.evaluation.specs.ValueText.{line_end}
use Rattle.orders.specs.declared.stop.Stop.{Stop}
use Rattle.orders.specs.declared.stop.Stop.TheVariants as stop

-- the text ` record R cause C column K`
abbrev pub record_fault_text : ℕ → RowFault → List ℕ
record_fault_text number fault = codes " record " ++ (decimal number ++ (codes " cause " ++ (decimal (row_cause_number fault.cause) ++ (codes " column " ++ decimal fault.column))))

-- the text after the number of a fault of the balances: ` cause F`, or the record and its fault
abbrev pub balance_fault_text : BalanceFault → List ℕ
balance_fault_text (balance.File fault) = codes " cause " ++ decimal (file_number fault)
balance_fault_text (balance.Row number fault) = record_fault_text number fault
balance_fault_text balance.OutOfMemory = []

-- the text after the number of a fault of the terms: ` file P cause F` for a provider's file
abbrev pub terms_cause_text : TermsFault → List ℕ
terms_cause_text (terms.File provider fault) = codes " file " ++ (decimal provider ++ (codes " cause " ++ decimal (file_number fault)))
terms_cause_text (terms.Balances fault) = balance_fault_text fault
terms_cause_text _ = []

-- the text `terms fault N`, and the text after the number
abbrev pub terms_fault_text : TermsFault → List ℕ
terms_fault_text fault = codes "terms fault " ++ (decimal (terms_number fault) ++ terms_cause_text fault)

-- the text `run fault N`
abbrev pub run_fault_text : RunFault → List ℕ
run_fault_text fault = codes "run fault " ++ decimal (run_number fault)

-- the text of an error
abbrev pub stop_text : Stop → List ℕ
stop_text (stop.Value s) = value_stop_text s
stop_text (stop.Terms fault) = terms_fault_text fault
stop_text (stop.Run fault) = run_fault_text fault

-- the line of an error
abbrev pub stop_line : Stop → List ℕ
stop_line s = stop_text s ++ line_end ∷ []

-- the exit status of a fault of a run: 1 for a number of workers that is not allowed, 3 for a missing resource
abbrev pub run_status : RunFault → ℕ
run_status run.Workers = 1
run_status _ = 3

-- the exit status: 1 for invalid input, 3 for a missing resource
abbrev pub status_of : Stop → ℕ
status_of (stop.Value s) = status_of_value s
status_of (stop.Terms fault) = 1
status_of (stop.Run fault) = run_status fault

-- the error is an error of `value` with this property
abbrev pub IsOfValue : (ValueStop → Type 0) → Stop → Type 0
IsOfValue IsSuch (stop.Value s) = IsSuch s
IsOfValue IsSuch _ = ⊥

-- the error can occur for these texts: an error about the texts has its cause in them, and the other errors can occur for any texts
abbrev pub IsReason : List ℕ → List (List ℕ) → Stop → Type 0
IsReason plan_text arguments s = IsOfValue (IsReasonOfValue plan_text arguments) s

-- the error can occur for this plan's text in a command that reads nothing else
abbrev pub IsPlanReason : List ℕ → Stop → Type 0
IsPlanReason plan_text s = IsOfValue (IsPlanReasonOfValue plan_text) s

-- the bytes that the writer has received before an error: the first bytes of the text before a write fault, and otherwise nothing
abbrev pub WritesUntil : (List ℕ → Type 0) → Option (List ℕ) → Option (List ℕ) → Stop → Type 0
WritesUntil IsText old new (stop.Value s) = WritesUntilValueStop IsText old new s
WritesUntil IsText old new _ = Keeps old new

-- whether the writer has failed after an error: it has after a write fault, and other errors leave it unchanged
abbrev pub failed_after : Bool → Stop → Bool
failed_after before (stop.Value s) = failed_after_value before s
failed_after before _ = before

-- the error for a fault of the plan's text
abbrev pub IsStopOfPlan : PlanFault → Stop → Type 0
IsStopOfPlan fault s = IsOfValue (IsValueStopOfPlan fault) s

-- the error for a fault of the terms; a lack of memory is not a fault of the texts
abbrev pub IsStopOfTerms : TermsFault → Stop → Type 0
IsStopOfTerms fault (stop.Terms same) = (same ≡ fault) × (fault ≢ terms.OutOfMemory)
IsStopOfTerms fault (stop.Value value.NoMemory) = fault ≡ terms.OutOfMemory
IsStopOfTerms fault _ = ⊥

-- the error for a fault of the run
abbrev pub IsStopOfRun : RunFault → Stop → Type 0
IsStopOfRun fault (stop.Run same) = (same ≡ fault) × (fault ≢ run.OutOfMemory)
IsStopOfRun fault (stop.Value value.NoMemory) = fault ≡ run.OutOfMemory
IsStopOfRun fault _ = ⊥

-- the error for a fault that ended the writing of a remittance
abbrev pub IsStopOfWrite : WriteFault → Stop → Type 0
IsStopOfWrite fault (stop.Value (value.Write written)) = (written ≡ fault.written) × (fault.cause ≡ write.Device)
IsStopOfWrite fault (stop.Value value.NoMemory) = fault.cause ≡ write.OutOfMemory
IsStopOfWrite fault _ = ⊥
