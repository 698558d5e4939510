use Rattle.std.proofs.Common.{◌≡◌, [], ◌∷◌, ◌++◌, refl, sym, ap, ◌∙◌, subst, rules, arith}
use Rattle.journal.specs.Leading.{leads_itself}
use Rattle.journal.specs.declared.event.Event.TheVariants.{Take}
use Rattle.claim_gate.specs.Parts.{at}
use Rattle.claim_gate.specs.Shared.{IsLawful}
use Rattle.claim_gate.proofs.Replying.{IsTaken, grown_leads, grown_view, is_over, kept_alike, leads_alike, nothing_ready, ok-holds, runs_seen, same_view, stopped_seen, takes}
use Rattle.claim_gate.proofs.state.GateState.take.Goals as goal

pub returns-then-is_over-clause-reply : goal.returns-then-is_over-clause-reply
returns-then-is_over-clause-reply c = is_over c.self.inside c.args.self.now c.self.view_is c.self.invariant (search rules) (search rules)

pub returns-in_default-clause-reply : goal.returns-in_default-clause-reply
returns-in_default-clause-reply c =
    nothing_ready c.self.inside c.args.self.now c.self.view_is c.self.invariant c.reserve.new.self.items c.take.new.self c.in_default.ensures.in_turn c.in_default.ensures.unchanged c.if-self.false (search rules) c.in_default.ensures.nothing c.reserve.ensures.items

journal_is : (c : goal.After-append) → c.append.new.journal.items ≡ c.self.inside.journal.items ++ Take c.in-Some.picked.position ∷ []
journal_is c = c.append.ensures.items ∙ ap (λ w. w ++ Take c.in-Some.picked.position ∷ []) c.reserve.ensures.items

done : (c : goal.After-append) → IsTaken c.self.inside c.args.self.now c.self.view_is c.self.invariant c.in-Some.picked c.start_of-acc.result c.append.new.journal.items c.take.new.self
done c =
    takes c.self.inside c.args.self.now c.self.view_is c.self.invariant c.in-Some.picked c.start_of-acc.result c.append.new.journal.items c.take.new.self
    c.gate_keeps_lawful.ensures.take c.in-Some.ensures.in_turn c.if-self.false
    (search rules) c.in-Some.ensures.picked c.start_of-acc.ensures c.in-Some.ensures.taken
    (journal_is c)

pub append-requires : goal.append-requires
append-requires c =
    let room = ok-holds c.reserve.result _ (sym c.is_err.ensures.value ∙ c.if-is_err.false) c.reserve.ensures.ok in
    omega (arith, room)

pub invariant_of-self-2 : goal.invariant_of-self-2
invariant_of-self-2 c = (done c).keeps

pub returns-clause-reply : goal.returns-clause-reply
returns-clause-reply c = (done c).reply

pub returns-clause-lawful : goal.returns-clause-lawful
returns-clause-lawful c = (done c).keeps.lawful

pub invariant_of-self : goal.invariant_of-self
invariant_of-self c = kept_alike c.self.inside c.reserve.new.self.items c.self.inside.lanes c.reserve.ensures.items refl c.self.invariant

pub invariant_of-self-in_default : goal.invariant_of-self-in_default
invariant_of-self-in_default c =
    kept_alike c.self.inside c.reserve.new.self.items c.take.new.self c.reserve.ensures.items c.in_default.ensures.unchanged c.self.invariant

pub returns-in_default-clause-lawful : goal.returns-in_default-clause-lawful
returns-in_default-clause-lawful c =
    (kept_alike c.self.inside c.reserve.new.self.items c.take.new.self c.reserve.ensures.items c.in_default.ensures.unchanged c.self.invariant).lawful

pub returns-then-is_err-clause-reply : goal.returns-then-is_err-clause-reply
returns-then-is_err-clause-reply c = λ T is. ap (at T) (same_view c.self.inside c.args.self.now c.reserve.new.self.items c.self.view_is c.reserve.ensures.items)

pub returns-then-is_err-clause-leads : goal.returns-then-is_err-clause-leads
returns-then-is_err-clause-leads c = leads_alike c.args.self.now _ (same_view c.self.inside c.args.self.now c.reserve.new.self.items c.self.view_is c.reserve.ensures.items)

pub returns-then-is_err-clause-refused : goal.returns-then-is_err-clause-refused
returns-then-is_err-clause-refused c = same_view c.self.inside c.args.self.now c.reserve.new.self.items c.self.view_is c.reserve.ensures.items

pub returns-then-is_err-clause-lawful : goal.returns-then-is_err-clause-lawful
returns-then-is_err-clause-lawful c = (kept_alike c.self.inside c.reserve.new.self.items c.self.inside.lanes c.reserve.ensures.items refl c.self.invariant).lawful

pub returns-in_default-clause-leads : goal.returns-in_default-clause-leads
returns-in_default-clause-leads c = leads_alike c.args.self.now _ (same_view c.self.inside c.args.self.now c.reserve.new.self.items c.self.view_is c.reserve.ensures.items)

pub returns-in_default-clause-work : goal.returns-in_default-clause-work
returns-in_default-clause-work c = same_view c.self.inside c.args.self.now c.reserve.new.self.items c.self.view_is c.reserve.ensures.items

pub returns-then-self-clause-leads : goal.returns-then-self-clause-leads
returns-then-self-clause-leads c = leads_itself c.args.self.now

pub returns-then-self-clause-lawful : goal.returns-then-self-clause-lawful
returns-then-self-clause-lawful c = subst IsLawful c.self.view_is c.self.invariant.lawful

pub returns-then-is_over-clause-leads : goal.returns-then-is_over-clause-leads
returns-then-is_over-clause-leads c = leads_itself c.args.self.now

pub returns-then-is_over-clause-lawful : goal.returns-then-is_over-clause-lawful
returns-then-is_over-clause-lawful c = subst IsLawful c.self.view_is c.self.invariant.lawful

pub returns-clause-work : goal.returns-clause-work
returns-clause-work c = grown_view c.self.inside c.args.self.now c.append.new.journal.items (Take c.in-Some.picked.position) c.self.view_is (journal_is c)

pub returns-clause-leads : goal.returns-clause-leads
returns-clause-leads c = grown_leads c.args.self.now _ (Take c.in-Some.picked.position) (runs_seen c.self.inside c.args.self.now c.self.view_is c.self.invariant c.if-self.false)
    (grown_view c.self.inside c.args.self.now c.append.new.journal.items (Take c.in-Some.picked.position) c.self.view_is (journal_is c))

pub returns-then-self-clause-reply : goal.returns-then-self-clause-reply
returns-then-self-clause-reply c = λ T is. (stopped_seen c.self.inside c.args.self.now c.self.view_is c.self.invariant c.if-self.true, refl)
