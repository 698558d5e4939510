use Rattle.std.proofs.Common.{refl, sym, subst, ◌∙◌, arith}
use Rattle.std.proofs.lemmas.Grind.{common_steps}
use Rattle.gate_calls.proofs.Passes.{after_section, leaves_for_memory, section_later, unchanged, worn_later}
use Rattle.gate_calls.proofs.Sections.{accepts_on, closed_to, goes_on, no_fewer, stopped_to}
use Rattle.claim_gate.proofs.Sharing.{due_stays}
use Rattle.claim_gate.specs.Shared.{IsDueAt}
use Rattle.claim_gate.specs.declared.offer.Offer.{Offer}
use Rattle.gate_calls.proofs.offering.offer.Goals as goal

pub tries-preserved : goal.tries-preserved
tries-preserved g c =
    let before = (g.G.Gate.known c.tries.pass).seen in
    let after = (g.G.Gate.known c.in-Ok.served.pass).seen in
    let on = after_section (g.G.Gate.has_pass c.args.shared.now.gate.now) g.G.Gate.known c.tries.pass c.in-Ok.served.pass c.in-Ok.ensures.served in
    let same = rw c.in-Err-reply.is at c.in-Ok.ensures.back in
    let more = no_fewer before.journal after.journal c.args.offer.provider on.seen.journal in (
      section_later (g.G.Gate.has_pass c.args.shared.now.gate.now) g.G.Gate.known c.args.pass c.tries.pass c.in-Ok.served.pass c.tries.invariant.0 c.in-Ok.ensures.served,
      on.seen.terms ∙ c.tries.invariant.1,
      same ∙ c.tries.invariant.2,
      omega (arith, c.tries.invariant.3, more),
    )

pub returns-in-Err-clause-leaves : goal.returns-in-Err-clause-leaves
returns-in-Err-clause-leaves g c =
    worn_later (g.G.Gate.has_pass c.args.shared.now.gate.now) g.G.Gate.known g.G.Gate.is_worn c.args.pass c.tries.pass c.in-Err.worn.pass c.tries.invariant.0 c.in-Err.ensures.worn

pub returns-in-Ok-reply-clause-goes_on : goal.returns-in-Ok-reply-clause-goes_on
returns-in-Ok-reply-clause-goes_on g c =
    section_later (g.G.Gate.has_pass c.args.shared.now.gate.now) g.G.Gate.known c.args.pass c.tries.pass c.in-Ok.served.pass c.tries.invariant.0 c.in-Ok.ensures.served

pub returns-in-Ok-reply-clause-next : goal.returns-in-Ok-reply-clause-next
returns-in-Ok-reply-clause-next g c =
    let reply = rw (c.in-Ok-reply.is, c.tries.invariant.2) at c.in-Ok.ensures.reply in
    accepts_on c.args.shared.now.terms.now c.claim_lists_exist.ensures (g.G.Gate.known c.tries.pass) (g.G.Gate.known c.in-Ok.served.pass) c.tries.invariant.1 c.in-Ok.ensures.served.section
    c.args.offer.provider c.args.offer.place c.in-Ok-reply.field-0.position reply

pub returns-in-OutOfTurn-clause-goes_on : goal.returns-in-OutOfTurn-clause-goes_on
returns-in-OutOfTurn-clause-goes_on g c =
    section_later (g.G.Gate.has_pass c.args.shared.now.gate.now) g.G.Gate.known c.args.pass c.tries.pass c.in-Ok.served.pass c.tries.invariant.0 c.in-Ok.ensures.served

pub returns-in-OutOfTurn-clause-next : goal.returns-in-OutOfTurn-clause-next
returns-in-OutOfTurn-clause-next g c =
    goes_on c.args.shared.now.terms.now c.claim_lists_exist.ensures (g.G.Gate.known c.tries.pass) (g.G.Gate.known c.in-Ok.served.pass) c.tries.invariant.1 c.in-Ok.ensures.served.section
    c.args.offer.provider c.args.offer.place c.in-OutOfTurn.expected c.in-Ok.served.reply c.in-Err-reply.refused c.in-Err-reply.is c.in-OutOfTurn.is c.tries.invariant.3 (rw c.tries.invariant.2 at c.in-Ok.ensures.reply)

pub returns-in-Closed-clause-goes_on : goal.returns-in-Closed-clause-goes_on
returns-in-Closed-clause-goes_on g c =
    section_later (g.G.Gate.has_pass c.args.shared.now.gate.now) g.G.Gate.known c.args.pass c.tries.pass c.in-Ok.served.pass c.tries.invariant.0 c.in-Ok.ensures.served

pub returns-in-Closed-clause-next : goal.returns-in-Closed-clause-next
returns-in-Closed-clause-next g c =
    closed_to c.args.shared.now.terms.now c.claim_lists_exist.ensures (g.G.Gate.known c.tries.pass) (g.G.Gate.known c.in-Ok.served.pass) c.tries.invariant.1 c.in-Ok.ensures.served.section
    c.args.offer.provider c.args.offer.place c.in-Ok.served.reply c.in-Err-reply.refused c.in-Err-reply.is c.in-Closed.is (rw c.tries.invariant.2 at c.in-Ok.ensures.reply)

pub returns-in-Stopped-clause-goes_on : goal.returns-in-Stopped-clause-goes_on
returns-in-Stopped-clause-goes_on g c =
    section_later (g.G.Gate.has_pass c.args.shared.now.gate.now) g.G.Gate.known c.args.pass c.tries.pass c.in-Ok.served.pass c.tries.invariant.0 c.in-Ok.ensures.served

pub returns-in-Stopped-clause-next : goal.returns-in-Stopped-clause-next
returns-in-Stopped-clause-next g c =
    stopped_to c.args.shared.now.terms.now c.claim_lists_exist.ensures (g.G.Gate.known c.tries.pass) (g.G.Gate.known c.in-Ok.served.pass) c.tries.invariant.1 c.in-Ok.ensures.served.section
    c.args.offer.provider c.args.offer.place c.in-Ok.served.reply c.in-Err-reply.refused c.in-Err-reply.is c.in-Stopped.is (rw c.tries.invariant.2 at c.in-Ok.ensures.reply)

pub tries-init : goal.tries-init
tries-init g c = (
  unchanged (g.G.Gate.has_pass c.args.shared.now.gate.now) g.G.Gate.known c.args.pass c.args.pass c.requires.own refl,
  c.requires.terms,
  refl,
  c.requires.taken,
)

pub offer-requires-clause-filed : goal.offer-requires-clause-filed
offer-requires-clause-filed g c = rw (c.tries.invariant.1, c.tries.invariant.2) c.requires.filed

pub returns-clause-leaves : goal.returns-clause-leaves
returns-clause-leaves g c = leaves_for_memory (g.G.Gate.has_pass c.args.shared.now.gate.now) g.G.Gate.known g.G.Gate.is_worn c.args.pass c.tries.pass c.tries.invariant.0

pub offer-requires-clause-due : goal.offer-requires-clause-due
offer-requires-clause-due g c =
    let seen = (g.G.Gate.known c.tries.pass).seen in
    let due = due_stays (g.G.Gate.known c.args.pass).seen seen c.args.offer.provider c.args.offer.place c.tries.invariant.0.seen c.requires.due in
    subst (λ (o : Offer). IsDueAt seen o.provider o.place) (sym c.tries.invariant.2) due

pub returns-in-Err-clause-goes_on : goal.returns-in-Err-clause-goes_on
returns-in-Err-clause-goes_on c = grind (arith, common_steps)

pub offer-requires-clause-own : goal.offer-requires-clause-own
offer-requires-clause-own c = grind (arith, common_steps)

pub returns-in-OutOfTurn-clause-leaves : goal.returns-in-OutOfTurn-clause-leaves
returns-in-OutOfTurn-clause-leaves c = grind (arith, common_steps)

pub returns-in-Ok-reply-clause-leaves : goal.returns-in-Ok-reply-clause-leaves
returns-in-Ok-reply-clause-leaves c = grind (arith, common_steps)

pub returns-in-Closed-clause-leaves : goal.returns-in-Closed-clause-leaves
returns-in-Closed-clause-leaves c = grind (arith, common_steps)

pub returns-in-Err-clause-next : goal.returns-in-Err-clause-next
returns-in-Err-clause-next c = grind (arith, common_steps)

pub returns-clause-next : goal.returns-clause-next
returns-clause-next c = grind (arith, common_steps)

pub returns-in-Stopped-clause-leaves : goal.returns-in-Stopped-clause-leaves
returns-in-Stopped-clause-leaves c = grind (arith, common_steps)

pub returns-clause-goes_on : goal.returns-clause-goes_on
returns-clause-goes_on c = grind (arith, common_steps)
