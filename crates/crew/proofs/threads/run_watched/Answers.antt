use Rattle.std.proofs.Common.{◌≡◌, ◌≢◌, List, refl, subst, sym, arith}
use Rattle.std.proofs.lemmas.Grind.{common_steps}
use Rattle.claim_gate.specs.Parts.{GateParts}
use Rattle.claim_gate.specs.Shared.{IsOrdered}
use Rattle.claim_gate.specs.Terms.{ForTerms, TermsParts}
use Rattle.journal.specs.Events.{accepts}
use Rattle.journal.specs.InOrder.{AreFirstInOrder}
use Rattle.journal.specs.Lawful.{Finished}
use Rattle.journal.specs.declared.event.Event.{Event}
use Rattle.journal.specs.declared.order.Order.TheVariants.{Any}
use Rattle.faults.specs.declared.run_fault.RunFault.TheVariants.{OutOfMemory}
use Rattle.crew.proofs.Results.{memory_not_workers, not_for_workers}
use Rattle.crew.proofs.threads.run_watched.Goals as goal

-- a journal is not both finished and unfinished, since a reading of the terms is possible
not_both : (parts : TermsParts) (J : List Event) → ¬ ForTerms parts (λ T. ⊥) → ForTerms parts (λ T. Finished T J) → ForTerms parts (λ T. ¬ Finished T J) → ⊥
not_both parts J seen finished unfinished = seen (λ T is. unfinished T is (finished T is))

-- a batch has the order of the gate that it is made from
ordered_so : (parts : TermsParts) (gate : GateParts) (J : List Event) → gate.terms ≡ parts → J ≡ gate.journal → IsOrdered gate
    → parts.order ≢ Any → ForTerms parts (λ T. AreFirstInOrder parts.order T.files (accepts J))
ordered_so parts gate J of_terms same ordered =
    subst (λ (t : TermsParts). t.order ≢ Any → ForTerms t (λ T. AreFirstInOrder t.order T.files (accepts J))) of_terms
    (subst (λ K. gate.terms.order ≢ Any → ForTerms gate.terms (λ T. AreFirstInOrder gate.terms.order T.files (accepts K))) (sym same) ordered)

pub unreachable-requires : goal.unreachable-requires
unreachable-requires g c =
    not_both c.args.terms.now c.into_inner-state.result.journal c.claim_lists_exist.ensures (rw c.into_inner-state.ensures c.in-Ok-run_after_new.ensures.finished)
    c.in-Err-from_state.ensures.unfinished

pub returns-in_default-clause-refused : goal.returns-in_default-clause-refused
returns-in_default-clause-refused g c = not_for_workers c.args.workers OutOfMemory (c.if-not-may_have.ensures.0 refl) memory_not_workers

pub returns-in_default-new-clause-refused : goal.returns-in_default-new-clause-refused
returns-in_default-new-clause-refused g c = not_for_workers c.args.workers OutOfMemory (c.if-not-may_have.ensures.0 refl) memory_not_workers

pub returns-in_default-new-2-clause-refused : goal.returns-in_default-new-2-clause-refused
returns-in_default-new-2-clause-refused g c = not_for_workers c.args.workers OutOfMemory (c.if-not-may_have.ensures.0 refl) memory_not_workers

pub returns-in-Err-clause-refused : goal.returns-in-Err-clause-refused
returns-in-Err-clause-refused g c = not_for_workers c.args.workers c.in-Err.fault (c.if-not-may_have.ensures.0 refl) c.in-Err.ensures.fault

pub returns-clause-ordered : goal.returns-clause-ordered
returns-clause-ordered g c =
    ordered_so c.args.terms.now c.into_inner-state.result c.in-Ok-from_state.batch.journal (rw c.into_inner-state.ensures c.in-Ok-run_after_new.ensures.terms)
    c.in-Ok-from_state.ensures.batch.1 c.journal-ordered.ensures.ordered

pub run_after_new-requires-clause-workers : goal.run_after_new-requires-clause-workers
run_after_new-requires-clause-workers g c κs within = c.if-not-may_have.ensures.0 refl

pub returns-clause-workers : goal.returns-clause-workers
returns-clause-workers g c = c.if-not-may_have.ensures.0 refl

pub from_state-requires : goal.from_state-requires
from_state-requires g c = rw c.into_inner-state.ensures c.in-Ok-run_after_new.ensures.terms

pub run_after_new-requires-clause-own : goal.run_after_new-requires-clause-own
run_after_new-requires-clause-own g c κs within = c.in-Ok-new-2.ensures.own

pub returns-clause-finished : goal.returns-clause-finished
returns-clause-finished g c = c.in-Ok-from_state.ensures.finished

pub returns-clause-terms : goal.returns-clause-terms
returns-clause-terms g c = c.in-Ok-from_state.ensures.batch.0

pub returns-then-not-may_have-clause-refused : goal.returns-then-not-may_have-clause-refused
returns-then-not-may_have-clause-refused c = grind (arith, common_steps)

pub returns-in_default-new-2-clause-ordered : goal.returns-in_default-new-2-clause-ordered
returns-in_default-new-2-clause-ordered c = grind (arith, common_steps)

pub returns-in_default-new-2-clause-terms : goal.returns-in_default-new-2-clause-terms
returns-in_default-new-2-clause-terms c = grind (arith, common_steps)

pub returns-in_default-new-2-clause-finished : goal.returns-in_default-new-2-clause-finished
returns-in_default-new-2-clause-finished c = grind (arith, common_steps)

pub returns-in-Err-clause-ordered : goal.returns-in-Err-clause-ordered
returns-in-Err-clause-ordered c = grind (arith, common_steps)

pub returns-in_default-new-2-clause-workers : goal.returns-in_default-new-2-clause-workers
returns-in_default-new-2-clause-workers c = grind (arith, common_steps)

pub returns-in-Err-clause-terms : goal.returns-in-Err-clause-terms
returns-in-Err-clause-terms c = grind (arith, common_steps)

pub run_after_new-requires-clause-terms : goal.run_after_new-requires-clause-terms
run_after_new-requires-clause-terms c = grind (arith, common_steps)

pub returns-in-Err-clause-workers : goal.returns-in-Err-clause-workers
returns-in-Err-clause-workers c = grind (arith, common_steps)

pub unreachable-unreachable : goal.unreachable-unreachable
unreachable-unreachable c = grind (arith, common_steps)

pub returns-clause-refused : goal.returns-clause-refused
returns-clause-refused c = grind (arith, common_steps)

pub returns-in-Err-clause-finished : goal.returns-in-Err-clause-finished
returns-in-Err-clause-finished c = grind (arith, common_steps)
