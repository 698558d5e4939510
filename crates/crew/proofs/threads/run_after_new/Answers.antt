use Rattle.std.proofs.Common.{◌≡◌, ◌++◌, sym, ap, subst, ◌∙◌, append-nil, arith}
use Rattle.std.proofs.lemmas.Grind.{common_steps}
use Rattle.journal.specs.Gate.{LeadsTo}
use Rattle.journal.specs.Laws.{FinishedIsFinal}
use Rattle.journal.specs.Lawful.{Finished, Lawful}
use Rattle.claim_gate.specs.Terms.{ForTerms, IsTermsOf, TermsParts}
use Rattle.claim_gate.specs.Parts.{GateParts}
use Rattle.claim_gate.specs.Shared.{IsLawful}
use Rattle.crew.proofs.Results.{worn_not_workers}
use Rattle.crew.proofs.threads.run_after_new.Goals as goal

-- a finished journal stays finished in each later state of the gate
stays_finished : FinishedIsFinal → (parts : TermsParts) (before after : GateParts) → after.terms ≡ parts → LeadsTo before after → IsLawful after
    → ForTerms parts (λ T. Finished T before.journal) → ForTerms parts (λ T. Finished T after.journal)
stays_finished final parts before after of_terms leads lawful finished T is =
    let on = leads.journal in
    let known = subst (λ terms. IsTermsOf terms T) (sym of_terms) is in
    let none = final T before.journal on.rest (finished T is) (subst (Lawful T) on.whole (lawful T known)) in
    subst (Finished T) (sym (on.whole ∙ ap (λ rest. before.journal ++ rest) none ∙ append-nil before.journal)) (finished T is)

pub returns-in-Err-clause-fault : goal.returns-in-Err-clause-fault
returns-in-Err-clause-fault g c is = c.in-Err.ensures.refused.0 is c.requires.workers

pub returns-in-Ok-retire-clause-terms : goal.returns-in-Ok-retire-clause-terms
returns-in-Ok-retire-clause-terms g c = c.in-Ok-retire.ensures.fresh.terms ∙ c.in-Ok.ensures.seen.terms ∙ c.requires.terms

pub returns-in-Ok-retire-clause-finished : goal.returns-in-Ok-retire-clause-finished
returns-in-Ok-retire-clause-finished g c =
    stays_finished c.finished_is_final.ensures c.args.terms.now (g.S.Value.SerialGate.shown (g.S.Section.seen c.in-Ok.pass)) (g.S.Value.SerialGate.shown c.in-Ok-retire.state)
    (c.in-Ok-retire.ensures.fresh.terms ∙ c.in-Ok.ensures.seen.terms ∙ c.requires.terms) c.in-Ok-retire.ensures.fresh c.in-Ok-retire.ensures.lawful c.in-Ok.ensures.finished

pub returns-clause-fault : goal.returns-clause-fault
returns-clause-fault g c = worn_not_workers

pub returns-clause-terms : goal.returns-clause-terms
returns-clause-terms c = grind (arith, common_steps)

pub returns-in-Ok-retire-clause-fault : goal.returns-in-Ok-retire-clause-fault
returns-in-Ok-retire-clause-fault c = grind (arith, common_steps)

pub returns-in-Err-clause-finished : goal.returns-in-Err-clause-finished
returns-in-Err-clause-finished c = grind (arith, common_steps)

pub run_on-requires-clause-terms : goal.run_on-requires-clause-terms
run_on-requires-clause-terms c = grind (arith, common_steps)

pub returns-clause-finished : goal.returns-clause-finished
returns-clause-finished c = grind (arith, common_steps)

pub returns-in-Err-clause-terms : goal.returns-in-Err-clause-terms
returns-in-Err-clause-terms c = grind (arith, common_steps)

pub run_on-requires-clause-own : goal.run_on-requires-clause-own
run_on-requires-clause-own c = grind (arith, common_steps)
