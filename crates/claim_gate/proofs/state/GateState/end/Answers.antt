use Rattle.std.proofs.Common.{[], ◌∷◌, ◌++◌, refl, sym, ap, ◌∙◌, subst, arith}
use Rattle.journal.specs.Leading.{leads_itself, running_leads}
use Rattle.journal.specs.declared.event.Event.TheVariants.{End}
use Rattle.claim_gate.specs.GateIndex.{is_due}
use Rattle.claim_gate.specs.Parts.{GateParts, at}
use Rattle.claim_gate.specs.Shared.{IsLawful}
use Rattle.claim_gate.proofs.Replying.{IsEnded, closed_seen, ends, ended_before, kept_alike, leads_alike, ok-holds, runs_seen, same_view, stopped_seen, too_few}
use Rattle.claim_gate.proofs.state.GateState.end.Goals as goal

pub returns-then-expected-count-clause-reply : goal.returns-then-expected-count-clause-reply
returns-then-expected-count-clause-reply c =
    too_few c.self.inside c.args.self.now c.self.view_is c.self.invariant c.args.provider c.args.count c.accepted_count-expected.result c.requires c.if-self.false c.if-self-2.false c.accepted_count-expected.ensures c.if-expected-count.true

pub returns-then-is_ended-clause-reply : goal.returns-then-is_ended-clause-reply
returns-then-is_ended-clause-reply c =
    ended_before c.self.inside c.args.self.now c.self.view_is c.self.invariant c.args.provider c.args.count c.accepted_count-expected.result c.requires c.if-self.false c.if-self-2.false c.accepted_count-expected.ensures c.if-expected-count.false (sym c.if-is_ended.true ∙ c.is_ended.ensures)

done : (c : goal.After-self-1) → IsEnded c.self.inside c.args.self.now c.self.view_is c.self.invariant c.args.provider c.args.count c.accepted_count-expected.result c.append.new.journal.items c.close_if_due-self-inside.new.journal.items c.end.new.self c.close_if_due-self-inside.result
done c =
    ends c.self.inside c.args.self.now c.self.view_is c.self.invariant c.args.provider c.args.count c.accepted_count-expected.result c.append.new.journal.items c.close_if_due-self-inside.new.journal.items c.end.new.self c.close_if_due-self-inside.result
    c.gate_keeps_lawful.ensures.end c.requires c.if-self.false c.if-self-2.false
    c.accepted_count-expected.ensures c.if-expected-count.false (sym c.if-is_ended.false ∙ c.is_ended.ensures) c.end.ensures
    (c.append.ensures.items ∙ ap (λ w. w ++ End c.args.provider ∷ []) c.reserve.ensures.items)
    c.close_if_due-self-inside.ensures.journal
    (c.close_if_due-self-inside.ensures.due ∙ ap (λ n. is_due c.self.inside.terms.now n c.end.new.self) c.len-accepted.ensures.value)

pub append-requires : goal.append-requires
append-requires c =
    let room = ok-holds c.reserve.result _ (sym c.is_err.ensures.value ∙ c.if-is_err.false) c.reserve.ensures.ok in
    omega (arith, room)

pub close_if_due-self-inside-requires : goal.close_if_due-self-inside-requires
close_if_due-self-inside-requires c =
    let room = ok-holds c.reserve.result _ (sym c.is_err.ensures.value ∙ c.if-is_err.false) c.reserve.ensures.ok in
    omega (arith, room, c.append.ensures.len, c.append.ensures.capacity)

pub invariant_of-self-2 : goal.invariant_of-self-2
invariant_of-self-2 c = (done c).keeps

pub returns-clause-reply : goal.returns-clause-reply
returns-clause-reply c = (done c).reply

pub returns-clause-lawful : goal.returns-clause-lawful
returns-clause-lawful c = (done c).keeps.lawful

pub returns-clause-leads : goal.returns-clause-leads
returns-clause-leads c = running_leads c.args.self.now _ (runs_seen c.self.inside c.args.self.now c.self.view_is c.self.invariant c.if-self.false) (ap (λ (g : GateParts). g.terms) c.self.view_is) (done c).goes_on

pub invariant_of-self : goal.invariant_of-self
invariant_of-self c = kept_alike c.self.inside c.reserve.new.self.items c.self.inside.lanes c.reserve.ensures.items refl c.self.invariant

pub returns-then-is_err-clause-reply : goal.returns-then-is_err-clause-reply
returns-then-is_err-clause-reply c = λ T is. ap (at T) (same_view c.self.inside c.args.self.now c.reserve.new.self.items c.self.view_is c.reserve.ensures.items)

pub returns-then-is_err-clause-leads : goal.returns-then-is_err-clause-leads
returns-then-is_err-clause-leads c = leads_alike c.args.self.now _ (same_view c.self.inside c.args.self.now c.reserve.new.self.items c.self.view_is c.reserve.ensures.items)

pub returns-then-is_err-clause-refused : goal.returns-then-is_err-clause-refused
returns-then-is_err-clause-refused c = same_view c.self.inside c.args.self.now c.reserve.new.self.items c.self.view_is c.reserve.ensures.items

pub returns-then-is_err-clause-lawful : goal.returns-then-is_err-clause-lawful
returns-then-is_err-clause-lawful c = (kept_alike c.self.inside c.reserve.new.self.items c.self.inside.lanes c.reserve.ensures.items refl c.self.invariant).lawful

pub returns-then-self-clause-leads : goal.returns-then-self-clause-leads
returns-then-self-clause-leads c = leads_itself c.args.self.now

pub returns-then-self-clause-lawful : goal.returns-then-self-clause-lawful
returns-then-self-clause-lawful c = subst IsLawful c.self.view_is c.self.invariant.lawful

pub returns-then-self-2-clause-leads : goal.returns-then-self-2-clause-leads
returns-then-self-2-clause-leads c = leads_itself c.args.self.now

pub returns-then-self-2-clause-lawful : goal.returns-then-self-2-clause-lawful
returns-then-self-2-clause-lawful c = subst IsLawful c.self.view_is c.self.invariant.lawful

pub returns-then-expected-count-clause-leads : goal.returns-then-expected-count-clause-leads
returns-then-expected-count-clause-leads c = leads_itself c.args.self.now

pub returns-then-expected-count-clause-lawful : goal.returns-then-expected-count-clause-lawful
returns-then-expected-count-clause-lawful c = subst IsLawful c.self.view_is c.self.invariant.lawful

pub returns-then-is_ended-clause-leads : goal.returns-then-is_ended-clause-leads
returns-then-is_ended-clause-leads c = leads_itself c.args.self.now

pub returns-then-is_ended-clause-lawful : goal.returns-then-is_ended-clause-lawful
returns-then-is_ended-clause-lawful c = subst IsLawful c.self.view_is c.self.invariant.lawful

pub returns-then-self-clause-reply : goal.returns-then-self-clause-reply
returns-then-self-clause-reply c = λ T is. (stopped_seen c.self.inside c.args.self.now c.self.view_is c.self.invariant c.if-self.true, refl)

pub returns-then-self-2-clause-reply : goal.returns-then-self-2-clause-reply
returns-then-self-2-clause-reply c = λ T is. (
  runs_seen c.self.inside c.args.self.now c.self.view_is c.self.invariant c.if-self.false,
  closed_seen c.self.inside c.args.self.now c.self.view_is c.self.invariant c.if-self-2.true,
  refl,
)
