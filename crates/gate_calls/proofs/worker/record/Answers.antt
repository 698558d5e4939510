use Rattle.std.proofs.Common.{refl, ◌∙◌, arith}
use Rattle.std.proofs.lemmas.Grind.{common_steps}
use Rattle.claim_gate.specs.declared.job.DecidedJob.{DecidedJob}
use Rattle.gate_calls.proofs.HeldClaims.{settled_stays}
use Rattle.gate_calls.proofs.Passes.{after_section, leaves_for_memory, leaves_stopped, section_later, unchanged, worn_later}
use Rattle.gate_calls.proofs.Sections.{already_seen, recorded_seen, refused_seen}
use Rattle.gate_calls.proofs.worker.record.Goals as goal

pub tries-preserved : goal.tries-preserved
tries-preserved g c =
    let before = (g.G.Gate.known c.tries.pass).seen in
    let after = (g.G.Gate.known c.in-Ok.served.pass).seen in
    let on = after_section (g.G.Gate.has_pass c.args.shared.now.gate.now) g.G.Gate.known c.tries.pass c.in-Ok.served.pass c.in-Ok.ensures.served in
    let same = rw c.in-Err-reply.is at c.in-Ok.ensures.back in
    let held : DecidedJob = record { job = c.tries.job; outcome = c.tries.outcome } in (
      section_later (g.G.Gate.has_pass c.args.shared.now.gate.now) g.G.Gate.known c.args.pass c.tries.pass c.in-Ok.served.pass c.tries.invariant.0 c.in-Ok.ensures.served,
      on.seen.terms ∙ c.tries.invariant.1,
      same.0 ∙ c.tries.invariant.2,
      same.1 ∙ c.tries.invariant.3,
      rw (same.0, same.1) (settled_stays c.jobs_are_stable.ensures before after held on.seen c.tries.invariant.4),
    )

pub returns-in-Err-clause-leaves : goal.returns-in-Err-clause-leaves
returns-in-Err-clause-leaves g c =
    worn_later (g.G.Gate.has_pass c.args.shared.now.gate.now) g.G.Gate.known g.G.Gate.is_worn c.args.pass c.tries.pass c.in-Err.worn.pass c.tries.invariant.0 c.in-Err.ensures.worn

pub returns-in-Stopped-clause-leaves : goal.returns-in-Stopped-clause-leaves
returns-in-Stopped-clause-leaves g c =
    let own = g.G.Gate.has_pass c.args.shared.now.gate.now in
    let known = g.G.Gate.known in
    let after = c.in-Ok.served.pass in
    leaves_stopped own known g.G.Gate.is_worn c.args.pass after (section_later own known c.args.pass c.tries.pass after c.tries.invariant.0 c.in-Ok.ensures.served)
    (refused_seen c.args.shared.now.terms.now c.claim_lists_exist.ensures (known c.tries.pass) (known after) c.tries.invariant.1 c.in-Ok.ensures.served.section
    c.tries.job.position c.tries.outcome c.in-Ok.served.reply c.in-Err-reply.refused c.in-Err-reply.is c.in-Stopped.is c.in-Ok.ensures.reply)

pub returns-in-Ok-reply-clause-goes_on : goal.returns-in-Ok-reply-clause-goes_on
returns-in-Ok-reply-clause-goes_on g c =
    section_later (g.G.Gate.has_pass c.args.shared.now.gate.now) g.G.Gate.known c.args.pass c.tries.pass c.in-Ok.served.pass c.tries.invariant.0 c.in-Ok.ensures.served

pub returns-in-Ok-reply-clause-decided : goal.returns-in-Ok-reply-clause-decided
returns-in-Ok-reply-clause-decided g c =
    let reply = rw (c.in-Ok-reply.is, c.tries.invariant.2) at c.in-Ok.ensures.reply in
    recorded_seen c.args.shared.now.terms.now c.claim_lists_exist.ensures (g.G.Gate.known c.tries.pass) (g.G.Gate.known c.in-Ok.served.pass) c.tries.invariant.1 c.in-Ok.ensures.served.section
    c.args.settled.job.position c.tries.outcome reply

pub returns-in-AlreadyDecided-clause-goes_on : goal.returns-in-AlreadyDecided-clause-goes_on
returns-in-AlreadyDecided-clause-goes_on g c =
    section_later (g.G.Gate.has_pass c.args.shared.now.gate.now) g.G.Gate.known c.args.pass c.tries.pass c.in-Ok.served.pass c.tries.invariant.0 c.in-Ok.ensures.served

pub returns-in-AlreadyDecided-clause-decided : goal.returns-in-AlreadyDecided-clause-decided
returns-in-AlreadyDecided-clause-decided g c =
    already_seen c.args.shared.now.terms.now c.claim_lists_exist.ensures (g.G.Gate.known c.tries.pass) (g.G.Gate.known c.in-Ok.served.pass) c.tries.invariant.1 c.in-Ok.ensures.served.section
    c.args.settled.job.position c.tries.outcome c.in-Ok.served.reply c.in-Err-reply.refused c.in-Err-reply.is c.in-AlreadyDecided.is
    (rw c.tries.invariant.2 at c.in-Ok.ensures.reply)

pub tries-init : goal.tries-init
tries-init g c = (
  unchanged (g.G.Gate.has_pass c.args.shared.now.gate.now) g.G.Gate.known c.args.pass c.args.pass c.requires.own refl,
  c.requires.terms,
  refl,
  refl,
  c.requires.settled,
)

pub finish-requires-clause-in_work : goal.finish-requires-clause-in_work
finish-requires-clause-in_work g c = c.tries.invariant.4.in_work.in_work

pub finish-requires-clause-job : goal.finish-requires-clause-job
finish-requires-clause-job g c = c.tries.invariant.4.in_work.is_job

pub finish-requires-clause-settled : goal.finish-requires-clause-settled
finish-requires-clause-settled g c = c.tries.invariant.4.value

pub returns-clause-leaves : goal.returns-clause-leaves
returns-clause-leaves g c = leaves_for_memory (g.G.Gate.has_pass c.args.shared.now.gate.now) g.G.Gate.known g.G.Gate.is_worn c.args.pass c.tries.pass c.tries.invariant.0

pub returns-in-Stopped-clause-goes_on : goal.returns-in-Stopped-clause-goes_on
returns-in-Stopped-clause-goes_on c = grind (arith, common_steps)

pub returns-in-Err-clause-decided : goal.returns-in-Err-clause-decided
returns-in-Err-clause-decided c = grind (arith, common_steps)

pub returns-clause-decided : goal.returns-clause-decided
returns-clause-decided c = grind (arith, common_steps)

pub returns-in-Err-clause-goes_on : goal.returns-in-Err-clause-goes_on
returns-in-Err-clause-goes_on c = grind (arith, common_steps)

pub finish-requires-clause-own : goal.finish-requires-clause-own
finish-requires-clause-own c = grind (arith, common_steps)

pub returns-clause-goes_on : goal.returns-clause-goes_on
returns-clause-goes_on c = grind (arith, common_steps)

pub returns-in-Ok-reply-clause-leaves : goal.returns-in-Ok-reply-clause-leaves
returns-in-Ok-reply-clause-leaves c = grind (arith, common_steps)

pub returns-in-AlreadyDecided-clause-leaves : goal.returns-in-AlreadyDecided-clause-leaves
returns-in-AlreadyDecided-clause-leaves c = grind (arith, common_steps)

pub returns-in-Stopped-clause-decided : goal.returns-in-Stopped-clause-decided
returns-in-Stopped-clause-decided c = grind (arith, common_steps)
