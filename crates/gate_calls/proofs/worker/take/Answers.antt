use Rattle.std.proofs.Common.{refl, ◌∙◌, arith}
use Rattle.std.proofs.lemmas.Grind.{common_steps}
use Rattle.gate_calls.proofs.Passes.{after_section, leaves_for_memory, leaves_stopped, section_later, unchanged, worn_later}
use Rattle.gate_calls.proofs.Sections.{over_seen, stopped_seen, work_seen}
use Rattle.gate_calls.proofs.worker.take.Goals as goal

pub tries-preserved : goal.tries-preserved
tries-preserved g c =
    let on = after_section (g.G.Gate.has_pass c.args.shared.now.gate.now) g.G.Gate.known c.tries.pass c.in-Ok.served.pass c.in-Ok.ensures.served in (
      section_later (g.G.Gate.has_pass c.args.shared.now.gate.now) g.G.Gate.known c.args.pass c.tries.pass c.in-Ok.served.pass c.tries.invariant.0 c.in-Ok.ensures.served,
      on.seen.terms ∙ c.tries.invariant.1,
    )

pub returns-in-Err-clause-leaves : goal.returns-in-Err-clause-leaves
returns-in-Err-clause-leaves g c =
    worn_later (g.G.Gate.has_pass c.args.shared.now.gate.now) g.G.Gate.known g.G.Gate.is_worn c.args.pass c.tries.pass c.in-Err.worn.pass c.tries.invariant.0 c.in-Err.ensures.worn

pub returns-in-Ok-Over-clause-goes_on : goal.returns-in-Ok-Over-clause-goes_on
returns-in-Ok-Over-clause-goes_on g c =
    section_later (g.G.Gate.has_pass c.args.shared.now.gate.now) g.G.Gate.known c.args.pass c.tries.pass c.in-Ok.served.pass c.tries.invariant.0 c.in-Ok.ensures.served

pub returns-in-Ok-Over-clause-task : goal.returns-in-Ok-Over-clause-task
returns-in-Ok-Over-clause-task g c =
    let reply = rw (c.in-Ok-Over.is, c.in-Ok-Over.field-0-is) at c.in-Ok.ensures.reply in
    over_seen c.args.shared.now.terms.now c.claim_lists_exist.ensures (g.G.Gate.known c.tries.pass) (g.G.Gate.known c.in-Ok.served.pass) c.tries.invariant.1 c.in-Ok.ensures.served.section reply

pub returns-in-Ok-Work-clause-goes_on : goal.returns-in-Ok-Work-clause-goes_on
returns-in-Ok-Work-clause-goes_on g c =
    section_later (g.G.Gate.has_pass c.args.shared.now.gate.now) g.G.Gate.known c.args.pass c.tries.pass c.in-Ok.served.pass c.tries.invariant.0 c.in-Ok.ensures.served

pub returns-in-Ok-Work-clause-task : goal.returns-in-Ok-Work-clause-task
returns-in-Ok-Work-clause-task g c =
    let reply = rw (c.in-Ok-Work.is, c.in-Ok-Work.field-0-is) at c.in-Ok.ensures.reply in
    let sound = rw c.plan.ensures.plan at c.names-names.ensures.sound in
    rw c.in-Ok-Work.field-0-is
    (work_seen c.args.shared.now.terms.now c.claim_lists_exist.ensures (g.G.Gate.known c.tries.pass) (g.G.Gate.known c.in-Ok.served.pass) c.tries.invariant.1 c.in-Ok.ensures.served.section
    c.claims_have_the_plan_s_fields.ensures sound c.in-Ok-Work.job reply)

pub returns-in-Ok-NothingReady-clause-goes_on : goal.returns-in-Ok-NothingReady-clause-goes_on
returns-in-Ok-NothingReady-clause-goes_on g c =
    section_later (g.G.Gate.has_pass c.args.shared.now.gate.now) g.G.Gate.known c.args.pass c.tries.pass c.in-Ok.served.pass c.tries.invariant.0 c.in-Ok.ensures.served

pub returns-in-Ok-Stopped-clause-leaves : goal.returns-in-Ok-Stopped-clause-leaves
returns-in-Ok-Stopped-clause-leaves g c =
    let own = g.G.Gate.has_pass c.args.shared.now.gate.now in
    let known = g.G.Gate.known in
    let after = c.in-Ok.served.pass in
    let reply = rw (c.in-Ok-Stopped.is, c.in-Ok-Stopped.field-0-is) at c.in-Ok.ensures.reply in
    leaves_stopped own known g.G.Gate.is_worn c.args.pass after (section_later own known c.args.pass c.tries.pass after c.tries.invariant.0 c.in-Ok.ensures.served)
    (stopped_seen c.args.shared.now.terms.now c.claim_lists_exist.ensures (known c.tries.pass) (known after) c.tries.invariant.1 c.in-Ok.ensures.served.section reply)

pub returns-in-Ok-NothingReady-clause-task : goal.returns-in-Ok-NothingReady-clause-task
returns-in-Ok-NothingReady-clause-task g c = rw (c.in-Ok-NothingReady.is, c.in-Ok-NothingReady.field-0-is) at c.in-Ok.ensures.reply

pub tries-init : goal.tries-init
tries-init g c = (
  unchanged (g.G.Gate.has_pass c.args.shared.now.gate.now) g.G.Gate.known c.args.pass c.args.pass c.requires.own refl,
  c.requires.terms,
)

pub returns-clause-leaves : goal.returns-clause-leaves
returns-clause-leaves g c = leaves_for_memory (g.G.Gate.has_pass c.args.shared.now.gate.now) g.G.Gate.known g.G.Gate.is_worn c.args.pass c.tries.pass c.tries.invariant.0

pub returns-in-Err-clause-goes_on : goal.returns-in-Err-clause-goes_on
returns-in-Err-clause-goes_on c = grind (arith, common_steps)

pub returns-in-Ok-NothingReady-clause-leaves : goal.returns-in-Ok-NothingReady-clause-leaves
returns-in-Ok-NothingReady-clause-leaves c = grind (arith, common_steps)

pub returns-in-Ok-Work-clause-leaves : goal.returns-in-Ok-Work-clause-leaves
returns-in-Ok-Work-clause-leaves c = grind (arith, common_steps)

pub returns-in-Ok-Stopped-clause-task : goal.returns-in-Ok-Stopped-clause-task
returns-in-Ok-Stopped-clause-task c = grind (arith, common_steps)

pub returns-in-Err-clause-task : goal.returns-in-Err-clause-task
returns-in-Err-clause-task c = grind (arith, common_steps)

pub returns-in-Ok-Over-clause-leaves : goal.returns-in-Ok-Over-clause-leaves
returns-in-Ok-Over-clause-leaves c = grind (arith, common_steps)

pub returns-in-Ok-Stopped-clause-goes_on : goal.returns-in-Ok-Stopped-clause-goes_on
returns-in-Ok-Stopped-clause-goes_on c = grind (arith, common_steps)
