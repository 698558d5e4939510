-- The errors of the command `run`, and the bytes that its writer has received before each of them.
use Rattle.std.specs.Prelude.{◌≡◌, ◌≢◌, ◌⊎◌, ◌↔◌, ℕ, List, Option}
use Rattle.std.specs.Io.KnownBytes.{Keeps}
use Rattle.tables.specs.Plan.{PlanParts}
use Rattle.dtable.specs.PlanFile.{IsPlanText}
use Rattle.claim_gate.specs.TermsFault.{HasTermsFault}
use Rattle.claim_gate.specs.Terms.{TermsParts}
use Rattle.faults.specs.declared.terms_fault.TermsFault.TheVariants as terms
use Rattle.faults.specs.declared.run_fault.RunFault.{RunFault}
use Rattle.faults.specs.declared.run_fault.RunFault.TheVariants as run
use Rattle.crew.specs.Workers.{IsWorkerCount}
use Rattle.evaluation.specs.Stop.{SpellsNoPlan}
use Rattle.evaluation.specs.declared.stop.ValueStop.TheVariants as value
use Rattle.orders.specs.declared.stop.Stop.{Stop}
use Rattle.orders.specs.declared.stop.Stop.TheVariants as stop
use Rattle.orders.specs.RunTexts.{AreTermsUnder, RunTexts}
use Rattle.claim_run.specs.RunText.{WritesFrontOver, WritesRemittanceFront}

-- a run with this number of workers can end with this fault: it is the fault of the workers exactly if their number is not allowed. A
-- lack of memory is another error
pub record RefusesWorkers (workers : ℕ) (fault : RunFault) : Type 0 where
  pub reported : fault ≢ run.OutOfMemory
  pub refused : (fault ≡ run.Workers) ↔ (¬ IsWorkerCount workers)

-- the texts form terms under this plan, and a run over these terms can end with this fault
pub record RefusesTerms (plan : PlanParts) (texts : RunTexts) (workers : ℕ) (fault : RunFault) : Type 0 where
  pub parts : TermsParts
  pub are_terms : AreTermsUnder plan texts parts
  pub refuses : RefusesWorkers workers fault

-- the error can occur for these texts under this plan and for this number of workers. The terms are checked before the workers; memory
-- can run out for any texts
abbrev pub RefusesRun : PlanParts → RunTexts → ℕ → Stop → Type 0
RefusesRun plan texts workers (stop.Terms fault) = HasTermsFault plan texts.files texts.balances fault × (fault ≢ terms.OutOfMemory)
RefusesRun plan texts workers (stop.Run fault) = RefusesTerms plan texts workers fault
RefusesRun plan texts workers (stop.Value value.NoMemory) = Unit {0}
RefusesRun plan texts workers _ = ⊥

-- the error can occur for these texts under the plan that the plan's text denotes, and for this number of workers
abbrev pub RefusesRunSpelled : RunTexts → ℕ → Stop → Type 0
RefusesRunSpelled texts workers s = (plan : PlanParts) × IsPlanText texts.plan plan × RefusesRun plan texts workers s

-- the error can occur for these texts and this number of workers. The plan is checked first; a write fault and a lack of memory can
-- occur for any texts
abbrev pub IsRunReason : RunTexts → ℕ → Stop → Type 0
IsRunReason texts workers (stop.Value (value.Plan fault)) = SpellsNoPlan texts.plan fault
IsRunReason texts workers (stop.Value (value.Write written)) = Unit {0}
IsRunReason texts workers (stop.Value value.NoMemory) = Unit {0}
IsRunReason texts workers s = RefusesRunSpelled texts workers s

-- the error ends the remittance of these terms: before a fault of the run the writer has received nothing, before a write fault exactly
-- the first `written` bytes, and before a lack of memory nothing or some first bytes
abbrev pub StopsRemittance : TermsParts → ℕ → Option (List ℕ) → Option (List ℕ) → Stop → Type 0
StopsRemittance parts workers old new (stop.Run fault) = RefusesWorkers workers fault × Keeps old new
StopsRemittance parts workers old new (stop.Value (value.Write written)) = WritesRemittanceFront parts old new written
StopsRemittance parts workers old new (stop.Value value.NoMemory) = Keeps old new ⊎ ((written : ℕ) × WritesRemittanceFront parts old new written)
StopsRemittance parts workers old new _ = ⊥

-- the bytes that the writer has received before an error of a run: before a write fault exactly the first `written` bytes of the
-- remittance, before a lack of memory nothing or some first bytes, and otherwise nothing
abbrev pub WritesRemittanceUntil : RunTexts → Option (List ℕ) → Option (List ℕ) → Stop → Type 0
WritesRemittanceUntil texts old new (stop.Value (value.Write written)) = WritesFrontOver texts old new written
WritesRemittanceUntil texts old new (stop.Value value.NoMemory) = Keeps old new ⊎ ((written : ℕ) × WritesFrontOver texts old new written)
WritesRemittanceUntil texts old new _ = Keeps old new
