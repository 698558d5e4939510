use Rattle.std.proofs.Common.{◌≤◌, [], ◌∷◌, ◌++◌, length, refl, sym, ap, ◌∙◌, arith}
use Rattle.settlement.specs.Accounts.{account_year}
use Rattle.claim_gate.specs.Intakes.{intake_of}
use Rattle.journal.specs.Leading.{running_leads}
use Rattle.journal.specs.declared.event.Event.TheVariants.{Accept}
use Rattle.claim_gate.specs.GateIndex.{is_due}
use Rattle.claim_gate.specs.Parts.{GateParts, at}
use Rattle.claim_gate.proofs.Replying.{IsAccepted, accepts, accepted_within, kept_alike, leads_alike, ok-holds, same_view}
use Rattle.claim_gate.proofs.state.GateState.accept.Goals as goal

pub accept-requires : goal.accept-requires
accept-requires c =
    let few : (intake_of c.self.inside.intakes c.args.offer.provider).accepted ≤ length c.self.inside.journal.items =
    accepted_within c.self.inside.journal.items (length c.self.inside.terms.now.files) c.self.inside.intakes c.args.offer.provider c.self.invariant.intakes_are in
    omega (arith, c.self.inside.journal.ok, c.self.inside.journal.small)

pub append-requires : goal.append-requires
append-requires c =
    let room = ok-holds c.reserve.result _ (sym c.is_err.ensures.value ∙ c.if-is_err.false) c.reserve.ensures.ok in
    omega (arith, room)

pub close_if_due-self-inside-requires : goal.close_if_due-self-inside-requires
close_if_due-self-inside-requires c =
    let room = ok-holds c.reserve.result _ (sym c.is_err.ensures.value ∙ c.if-is_err.false) c.reserve.ensures.ok in
    omega (arith, room, c.append.ensures.len, c.append.ensures.capacity)

done : (c : goal.After-self-1) → IsAccepted c.self.inside c.args.self.now c.self.view_is c.self.invariant c.args.offer c.len-position.result c.account_year-year.result c.append.new.journal.items c.close_if_due-self-inside.new.journal.items c.add.new.self c.accept.new.self c.close_if_due-self-inside.result
done c =
    accepts c.self.inside c.args.self.now c.self.view_is c.self.invariant c.args.offer c.len-position.result c.account_year-year.result c.append.new.journal.items c.close_if_due-self-inside.new.journal.items c.add.new.self c.accept.new.self c.close_if_due-self-inside.result
    c.gate_keeps_lawful.ensures.offer c.due_claim_stays_in_order.ensures c.requires.due c.requires.runs c.requires.open_yet c.requires.filed c.requires.in_turn
    c.len-position.ensures.value
    (c.account_year-year.ensures ∙ ap (λ p. account_year p c.as_claim.result.now) c.plan.ensures.plan ∙ ap (account_year c.self.inside.terms.now.plan) c.as_claim.ensures)
    c.in_default.ensures.added c.accept.ensures
    (c.append.ensures.items ∙ ap (λ w. w ++ Accept c.args.offer.provider c.args.offer.place ∷ []) c.reserve.ensures.items)
    c.close_if_due-self-inside.ensures.journal
    (c.close_if_due-self-inside.ensures.due ∙ ap (λ n. is_due c.self.inside.terms.now n c.accept.new.self) c.len-accepted.ensures.value)

pub invariant_of-self-2 : goal.invariant_of-self-2
invariant_of-self-2 c = (done c).keeps

pub returns-clause-reply : goal.returns-clause-reply
returns-clause-reply c = (done c).reply

pub returns-clause-lawful : goal.returns-clause-lawful
returns-clause-lawful c = (done c).keeps.lawful

pub returns-clause-leads : goal.returns-clause-leads
returns-clause-leads c = running_leads c.args.self.now _ c.requires.runs (ap (λ (g : GateParts). g.terms) c.self.view_is) (done c).goes_on

pub invariant_of-self : goal.invariant_of-self
invariant_of-self c = kept_alike c.self.inside c.reserve.new.self.items c.self.inside.lanes c.reserve.ensures.items refl c.self.invariant

pub invariant_of-self-in-Err : goal.invariant_of-self-in-Err
invariant_of-self-in-Err c = kept_alike c.self.inside c.reserve.new.self.items c.add.new.self c.reserve.ensures.items c.in-Err.ensures.refused c.self.invariant

pub returns-in-Err-clause-lawful : goal.returns-in-Err-clause-lawful
returns-in-Err-clause-lawful c =
    (kept_alike c.self.inside c.reserve.new.self.items c.add.new.self c.reserve.ensures.items c.in-Err.ensures.refused c.self.invariant).lawful

pub returns-then-is_err-clause-reply : goal.returns-then-is_err-clause-reply
returns-then-is_err-clause-reply c = λ T is. ap (at T) (same_view c.self.inside c.args.self.now c.reserve.new.self.items c.self.view_is c.reserve.ensures.items)

pub returns-then-is_err-clause-leads : goal.returns-then-is_err-clause-leads
returns-then-is_err-clause-leads c = leads_alike c.args.self.now _ (same_view c.self.inside c.args.self.now c.reserve.new.self.items c.self.view_is c.reserve.ensures.items)

pub returns-then-is_err-clause-refused : goal.returns-then-is_err-clause-refused
returns-then-is_err-clause-refused c = same_view c.self.inside c.args.self.now c.reserve.new.self.items c.self.view_is c.reserve.ensures.items

pub returns-then-is_err-clause-lawful : goal.returns-then-is_err-clause-lawful
returns-then-is_err-clause-lawful c = (kept_alike c.self.inside c.reserve.new.self.items c.self.inside.lanes c.reserve.ensures.items refl c.self.invariant).lawful

pub returns-in-Err-clause-reply : goal.returns-in-Err-clause-reply
returns-in-Err-clause-reply c = λ T is. ap (at T) (same_view c.self.inside c.args.self.now c.reserve.new.self.items c.self.view_is c.reserve.ensures.items)

pub returns-in-Err-clause-leads : goal.returns-in-Err-clause-leads
returns-in-Err-clause-leads c = leads_alike c.args.self.now _ (same_view c.self.inside c.args.self.now c.reserve.new.self.items c.self.view_is c.reserve.ensures.items)

pub returns-in-Err-clause-refused : goal.returns-in-Err-clause-refused
returns-in-Err-clause-refused c = same_view c.self.inside c.args.self.now c.reserve.new.self.items c.self.view_is c.reserve.ensures.items
