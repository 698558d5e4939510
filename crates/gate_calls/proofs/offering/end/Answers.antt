use Rattle.std.proofs.Common.{refl, ◌∙◌, arith}
use Rattle.std.proofs.lemmas.Grind.{common_steps}
use Rattle.gate_calls.proofs.Passes.{after_section, leaves_for_memory, section_later, unchanged, worn_later}
use Rattle.gate_calls.proofs.Sections.{already_past, closed_shut, ends_past, no_fewer, none_lacks, shut_past, stopped_shut}
use Rattle.gate_calls.proofs.offering.end.Goals as goal

pub unreachable-requires : goal.unreachable-requires
unreachable-requires g c =
    none_lacks c.args.shared.now.terms.now c.claim_lists_exist.ensures (g.G.Gate.known c.tries.pass) (g.G.Gate.known c.in-Ok.served.pass) c.tries.invariant.1 c.in-Ok.ensures.served.section
    c.args.provider c.args.count c.in-Err-OutOfTurn.field-0-0 c.in-Ok.served.reply c.in-Err-OutOfTurn.field-0 c.in-Err-OutOfTurn.is (rw c.in-Err-OutOfTurn.is at c.in-Err-OutOfTurn.field-0-is)
    c.tries.invariant.2 c.in-Ok.ensures.reply

pub tries-preserved : goal.tries-preserved
tries-preserved g c =
    let before = (g.G.Gate.known c.tries.pass).seen in
    let after = (g.G.Gate.known c.in-Ok.served.pass).seen in
    let on = after_section (g.G.Gate.has_pass c.args.shared.now.gate.now) g.G.Gate.known c.tries.pass c.in-Ok.served.pass c.in-Ok.ensures.served in
    let more = no_fewer before.journal after.journal c.args.provider on.seen.journal in (
      section_later (g.G.Gate.has_pass c.args.shared.now.gate.now) g.G.Gate.known c.args.pass c.tries.pass c.in-Ok.served.pass c.tries.invariant.0 c.in-Ok.ensures.served,
      on.seen.terms ∙ c.tries.invariant.1,
      omega (arith, c.tries.invariant.2, more),
    )

pub returns-in-Err-clause-leaves : goal.returns-in-Err-clause-leaves
returns-in-Err-clause-leaves g c =
    worn_later (g.G.Gate.has_pass c.args.shared.now.gate.now) g.G.Gate.known g.G.Gate.is_worn c.args.pass c.tries.pass c.in-Err.worn.pass c.tries.invariant.0 c.in-Err.ensures.worn

pub returns-in-Ok-reply-clause-goes_on : goal.returns-in-Ok-reply-clause-goes_on
returns-in-Ok-reply-clause-goes_on g c =
    section_later (g.G.Gate.has_pass c.args.shared.now.gate.now) g.G.Gate.known c.args.pass c.tries.pass c.in-Ok.served.pass c.tries.invariant.0 c.in-Ok.ensures.served

pub returns-in-Ok-reply-clause-past : goal.returns-in-Ok-reply-clause-past
returns-in-Ok-reply-clause-past g c =
    let reply = rw c.in-Ok-reply.is at c.in-Ok.ensures.reply in
    ends_past c.args.shared.now.terms.now c.claim_lists_exist.ensures (g.G.Gate.known c.tries.pass) (g.G.Gate.known c.in-Ok.served.pass) c.tries.invariant.1 c.in-Ok.ensures.served.section
    c.args.provider c.args.count reply

pub returns-in-Err-AlreadyEnded-clause-goes_on : goal.returns-in-Err-AlreadyEnded-clause-goes_on
returns-in-Err-AlreadyEnded-clause-goes_on g c =
    section_later (g.G.Gate.has_pass c.args.shared.now.gate.now) g.G.Gate.known c.args.pass c.tries.pass c.in-Ok.served.pass c.tries.invariant.0 c.in-Ok.ensures.served

pub returns-in-Err-AlreadyEnded-clause-past : goal.returns-in-Err-AlreadyEnded-clause-past
returns-in-Err-AlreadyEnded-clause-past g c =
    let reported = rw c.in-Err-AlreadyEnded.is at c.in-Err-AlreadyEnded.field-0-is in
    let reply = rw (c.in-Err-AlreadyEnded.is, reported) at c.in-Ok.ensures.reply in
    already_past c.args.shared.now.terms.now c.claim_lists_exist.ensures (g.G.Gate.known c.tries.pass) (g.G.Gate.known c.in-Ok.served.pass) c.tries.invariant.1 c.in-Ok.ensures.served.section
    c.args.provider c.args.count reply

pub returns-in-Err-Closed-clause-goes_on : goal.returns-in-Err-Closed-clause-goes_on
returns-in-Err-Closed-clause-goes_on g c =
    section_later (g.G.Gate.has_pass c.args.shared.now.gate.now) g.G.Gate.known c.args.pass c.tries.pass c.in-Ok.served.pass c.tries.invariant.0 c.in-Ok.ensures.served

pub returns-in-Err-Stopped-clause-goes_on : goal.returns-in-Err-Stopped-clause-goes_on
returns-in-Err-Stopped-clause-goes_on g c =
    section_later (g.G.Gate.has_pass c.args.shared.now.gate.now) g.G.Gate.known c.args.pass c.tries.pass c.in-Ok.served.pass c.tries.invariant.0 c.in-Ok.ensures.served

pub tries-init : goal.tries-init
tries-init g c = (
  unchanged (g.G.Gate.has_pass c.args.shared.now.gate.now) g.G.Gate.known c.args.pass c.args.pass c.requires.own refl,
  c.requires.terms,
  c.requires.taken,
)

pub end-requires-clause-claims : goal.end-requires-clause-claims
end-requires-clause-claims g c = rw c.tries.invariant.1 c.requires.claims

pub returns-clause-leaves : goal.returns-clause-leaves
returns-clause-leaves g c = leaves_for_memory (g.G.Gate.has_pass c.args.shared.now.gate.now) g.G.Gate.known g.G.Gate.is_worn c.args.pass c.tries.pass c.tries.invariant.0

pub returns-in-Err-Closed-clause-past : goal.returns-in-Err-Closed-clause-past
returns-in-Err-Closed-clause-past g c =
    let before = g.G.Gate.known c.tries.pass in
    let after = g.G.Gate.known c.in-Ok.served.pass in
    let reported = rw c.in-Err-Closed.is at c.in-Err-Closed.field-0-is in
    let reply = rw (c.in-Err-Closed.is, reported) at c.in-Ok.ensures.reply in
    shut_past c.args.shared.now.terms.now c.claim_lists_exist.ensures before after c.tries.invariant.1 c.in-Ok.ensures.served.section c.args.provider
    (closed_shut c.args.shared.now.terms.now c.claim_lists_exist.ensures before after c.tries.invariant.1 c.in-Ok.ensures.served.section reply)

pub returns-in-Err-Stopped-clause-past : goal.returns-in-Err-Stopped-clause-past
returns-in-Err-Stopped-clause-past g c =
    let before = g.G.Gate.known c.tries.pass in
    let after = g.G.Gate.known c.in-Ok.served.pass in
    let reported = rw c.in-Err-Stopped.is at c.in-Err-Stopped.field-0-is in
    let reply = rw (c.in-Err-Stopped.is, reported) at c.in-Ok.ensures.reply in
    shut_past c.args.shared.now.terms.now c.claim_lists_exist.ensures before after c.tries.invariant.1 c.in-Ok.ensures.served.section c.args.provider
    (stopped_shut c.args.shared.now.terms.now c.claim_lists_exist.ensures before after c.tries.invariant.1 c.in-Ok.ensures.served.section reply)

pub returns-in-Err-Closed-clause-leaves : goal.returns-in-Err-Closed-clause-leaves
returns-in-Err-Closed-clause-leaves c = grind (arith, common_steps)

pub returns-in-Err-clause-past : goal.returns-in-Err-clause-past
returns-in-Err-clause-past c = grind (arith, common_steps)

pub returns-in-Err-clause-goes_on : goal.returns-in-Err-clause-goes_on
returns-in-Err-clause-goes_on c = grind (arith, common_steps)

pub returns-in-Ok-reply-clause-leaves : goal.returns-in-Ok-reply-clause-leaves
returns-in-Ok-reply-clause-leaves c = grind (arith, common_steps)

pub returns-in-Err-AlreadyEnded-clause-leaves : goal.returns-in-Err-AlreadyEnded-clause-leaves
returns-in-Err-AlreadyEnded-clause-leaves c = grind (arith, common_steps)

pub returns-in-Err-Stopped-clause-leaves : goal.returns-in-Err-Stopped-clause-leaves
returns-in-Err-Stopped-clause-leaves c = grind (arith, common_steps)
