use Rattle.std.proofs.Common.{◌≡◌, ◌+◌, [], ◌∷◌, ◌++◌, Result, Ok, Err, IfErr, is_err, true, refl, sym, ap, ◌∙◌, arith}
use Rattle.std.proofs.lemmas.Bool.{false≢true}
use Rattle.std.proofs.lemmas.Grind.{common_steps}
use Rattle.journal.specs.declared.event.Event.TheVariants.{Decide}
use Rattle.claim_gate.specs.GateIndex.{IsKept}
use Rattle.claim_gate.specs.Parts.{at}
use Rattle.claim_gate.proofs.Replying.{grown_leads, grown_view, kept_alike, leads_alike, left_is, ok-holds, ok-then, records, same_view, settles, work_seen}
use Rattle.claim_gate.proofs.state.GateState.record.Goals as goal

pub unwrap-left-requires : goal.unwrap-left-requires
unwrap-left-requires c =
    settles c.args.self.now.terms.plan c.args.job.claim c.args.job.acc c.args.outcome c.after.result
    (rw c.outcome.ensures at c.after.ensures.settled) c.requires.settled

journal_is : (c : goal.After-append) → c.append.new.journal.items ≡ c.self.inside.journal.items ++ Decide c.args.job.position c.args.outcome ∷ []
journal_is c = c.append.ensures.items ∙ ap (λ w. w ++ Decide c.args.job.position c.args.outcome ∷ []) c.reserve.ensures.items

pub decide-requires : goal.decide-requires
decide-requires c = work_seen c.self.inside c.args.self.now c.self.view_is c.self.invariant c.args.job.position c.requires.once c.requires.in_work

pub append-requires : goal.append-requires
append-requires c =
    let room = ok-holds c.reserve.result _ (sym c.is_err.ensures.value ∙ c.if-is_err.false) c.reserve.ensures.ok in
    omega (arith, room)

done : (c : goal.After-append) → IsKept c.self.inside.terms.now c.append.new.journal.items c.decide.new.self c.self.inside.intakes c.self.inside.closed (c.self.inside.decisions + 1)
done c =
    records c.self.inside c.args.self.now c.self.view_is c.self.invariant c.args.job c.args.outcome c.unwrap-left.result c.append.new.journal.items c.decide.new.self
    c.gate_keeps_lawful.ensures.finish c.requires.runs c.requires.once c.requires.in_work c.requires.job c.requires.settled
    (left_is c.args.job.acc c.args.outcome c.after.result c.unwrap-left.result (rw c.outcome.ensures at c.after.ensures.sums) c.unwrap-left.ensures)
    (ok-then c.decide.result _ (sym c.is_err-2.ensures.value ∙ c.if-is_err-2.false) c.decide.ensures.decided) (journal_is c)

pub invariant_of-self-2 : goal.invariant_of-self-2
invariant_of-self-2 c = done c

pub returns-clause-lawful : goal.returns-clause-lawful
returns-clause-lawful c = (done c).lawful

pub invariant_of-self : goal.invariant_of-self
invariant_of-self c = kept_alike c.self.inside c.reserve.new.self.items c.self.inside.lanes c.reserve.ensures.items refl c.self.invariant

-- the clause on refused calls holds of a call that is refused
if-refused : {X Y : Type 0} (r : Result X Y) (P : Type 0) → is_err r ≡ true → IfErr r (λ _. P) → P
if-refused (Ok x) P refused holds = absurd (false≢true refused)
if-refused (Err e) P refused holds = holds

pub invariant_of-self-then-is_err-2 : goal.invariant_of-self-then-is_err-2
invariant_of-self-then-is_err-2 c =
    let refused : is_err c.decide.result ≡ true = sym c.is_err-2.ensures.value ∙ c.if-is_err-2.true in
    kept_alike c.self.inside c.reserve.new.self.items c.decide.new.self c.reserve.ensures.items (if-refused c.decide.result _ refused c.decide.ensures.refused) c.self.invariant

pub returns-then-is_err-clause-reply : goal.returns-then-is_err-clause-reply
returns-then-is_err-clause-reply c = λ T is. ap (at T) (same_view c.self.inside c.args.self.now c.reserve.new.self.items c.self.view_is c.reserve.ensures.items)

pub returns-then-is_err-clause-leads : goal.returns-then-is_err-clause-leads
returns-then-is_err-clause-leads c = leads_alike c.args.self.now _ (same_view c.self.inside c.args.self.now c.reserve.new.self.items c.self.view_is c.reserve.ensures.items)

pub returns-then-is_err-clause-refused : goal.returns-then-is_err-clause-refused
returns-then-is_err-clause-refused c = same_view c.self.inside c.args.self.now c.reserve.new.self.items c.self.view_is c.reserve.ensures.items

pub returns-then-is_err-clause-lawful : goal.returns-then-is_err-clause-lawful
returns-then-is_err-clause-lawful c = (kept_alike c.self.inside c.reserve.new.self.items c.self.inside.lanes c.reserve.ensures.items refl c.self.invariant).lawful

pub returns-then-is_err-2-clause-reply : goal.returns-then-is_err-2-clause-reply
returns-then-is_err-2-clause-reply c = λ T is. ap (at T) (same_view c.self.inside c.args.self.now c.reserve.new.self.items c.self.view_is c.reserve.ensures.items)

pub returns-then-is_err-2-clause-leads : goal.returns-then-is_err-2-clause-leads
returns-then-is_err-2-clause-leads c = leads_alike c.args.self.now _ (same_view c.self.inside c.args.self.now c.reserve.new.self.items c.self.view_is c.reserve.ensures.items)

pub returns-then-is_err-2-clause-refused : goal.returns-then-is_err-2-clause-refused
returns-then-is_err-2-clause-refused c = same_view c.self.inside c.args.self.now c.reserve.new.self.items c.self.view_is c.reserve.ensures.items

pub returns-clause-recorded : goal.returns-clause-recorded
returns-clause-recorded c = grown_view c.self.inside c.args.self.now c.append.new.journal.items (Decide c.args.job.position c.args.outcome) c.self.view_is (journal_is c)

pub returns-clause-reply : goal.returns-clause-reply
returns-clause-reply c = λ T is. (c.requires.runs, c.requires.once, ap (at T) (grown_view c.self.inside c.args.self.now c.append.new.journal.items (Decide c.args.job.position c.args.outcome) c.self.view_is (journal_is c)))

pub returns-clause-leads : goal.returns-clause-leads
returns-clause-leads c = grown_leads c.args.self.now _ (Decide c.args.job.position c.args.outcome) c.requires.runs (grown_view c.self.inside c.args.self.now c.append.new.journal.items (Decide c.args.job.position c.args.outcome) c.self.view_is (journal_is c))

pub overflow_add-self : goal.overflow_add-self
overflow_add-self c = grind (arith, common_steps)

pub returns-then-is_err-2-clause-lawful : goal.returns-then-is_err-2-clause-lawful
returns-then-is_err-2-clause-lawful c =
    let refused : is_err c.decide.result ≡ true = sym c.is_err-2.ensures.value ∙ c.if-is_err-2.true in
    (kept_alike c.self.inside c.reserve.new.self.items c.decide.new.self c.reserve.ensures.items (if-refused c.decide.result _ refused c.decide.ensures.refused) c.self.invariant).lawful
