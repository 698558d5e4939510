-- What an audit says of some bytes.
use Rattle.std.specs.Prelude.{◌≢◌, ℕ, List}
use Rattle.tables.specs.Plan.{PlanParts}
use Rattle.dtable.specs.PlanFile.{IsPlanText}
use Rattle.faults.specs.declared.terms_fault.TermsFault.TheVariants as terms
use Rattle.journal.specs.declared.order.Order.{Order}
use Rattle.claim_gate.specs.Terms.{TermsParts, text_in, texts_of}
use Rattle.claim_gate.specs.TermsFault.{HasTermsFault}
use Rattle.orders.specs.Remittance.{IsOrderedRemittanceOf}
use Rattle.evaluation.specs.Stop.{SpellsNoPlan}
use Rattle.evaluation.specs.declared.stop.ValueStop.TheVariants as value
use Rattle.orders.specs.RunTexts.{IsOrderedRemittance, RunTexts}
use Rattle.orders.specs.declared.stop.Stop.{Stop}
use Rattle.orders.specs.declared.stop.Stop.TheVariants as stop
use Rattle.adjudicate.specs.Differing.{IsFirstDifference}
use Rattle.adjudicate.specs.declared.audit.Audit.{Audit}
use Rattle.adjudicate.specs.declared.audit.Audit.TheVariants.{Same, Differs}
use Rattle.adjudicate.specs.declared.audit.AuditInput.{AuditInput}

-- the texts that the references in the input of an audit point to
abbrev pub audited_texts : AuditInput → RunTexts
audited_texts input = record {
  plan = input.plan.now;
  balances = text_in input.balances;
  files = texts_of input.files.now;
  cutoff = input.cutoff;
}

-- where the bytes differ, the audit has the remittance of the texts in the order, and the first record in which it differs from the bytes
abbrev pub HasDifference : Order → RunTexts → List ℕ → Audit → Type 0
HasDifference order texts given Same = Unit {0}
HasDifference order texts given (Differs difference due) = IsOrderedRemittance order texts due.items × IsFirstDifference given due.items difference

-- this is the result of an audit over these terms in this order
abbrev pub IsAuditOver : Order → TermsParts → List ℕ → Audit → Type 0
IsAuditOver order parts given Same = IsOrderedRemittanceOf order parts given
IsAuditOver order parts given (Differs difference due) = IsOrderedRemittanceOf order parts due.items × (given ≢ due.items) × IsFirstDifference given due.items difference

-- the error can occur in an audit of these texts: an error about the texts has its cause in them, and memory can run out for any texts
abbrev pub IsAuditReason : RunTexts → Stop → Type 0
IsAuditReason texts (stop.Value (value.Plan fault)) = SpellsNoPlan texts.plan fault
IsAuditReason texts (stop.Value value.NoMemory) = Unit {0}
IsAuditReason texts (stop.Terms fault) =
    (plan : PlanParts) × IsPlanText texts.plan plan × HasTermsFault plan texts.files texts.balances fault × (fault ≢ terms.OutOfMemory)
IsAuditReason texts _ = ⊥
