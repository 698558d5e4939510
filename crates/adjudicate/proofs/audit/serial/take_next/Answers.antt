use Rattle.std.proofs.Common.{subst, sym}
use Rattle.tables.specs.Plan.{IsPlan}
use Rattle.claim_gate.specs.Terms.{TermsParts}
use Rattle.adjudicate.proofs.Steps.{has_taken, not_over, not_unready, take_accepts_none}
use Rattle.adjudicate.proofs.audit.serial.take_next.Goals as goal

pub unreachable-requires : goal.unreachable-requires
unreachable-requires c = not_over c.args.gate.now c.take.new.self c.requires.offered (rw c.in-Ok-Over.field-0-is at c.in-Ok-Over.ensures.reply)

pub unreachable-requires-in-Ok-NothingReady : goal.unreachable-requires-in-Ok-NothingReady
unreachable-requires-in-Ok-NothingReady c =
    not_unready c.args.gate.now c.take.new.self c.requires.offered (rw c.in-Ok-NothingReady.field-0-is at c.in-Ok-NothingReady.ensures.reply)

pub returns-in-Ok-Work-clause-taken : goal.returns-in-Ok-Work-clause-taken
returns-in-Ok-Work-clause-taken c =
    let on = c.in-Ok-Work.ensures in
    let sound = rw c.plan.ensures.plan at c.names-names.ensures.sound in
    has_taken c.args.gate.now c.take.new.self c.requires.offered on.leads on.lawful c.in-Ok-Work.job (rw c.in-Ok-Work.field-0-is at on.reply)
    c.claims_have_the_plan_s_fields.ensures c.jobs_are_stable.ensures (subst (λ (terms : TermsParts). IsPlan terms.plan) (sym c.requires.terms) sound)

pub returns-in-Ok-Work-clause-none : goal.returns-in-Ok-Work-clause-none
returns-in-Ok-Work-clause-none c =
    let on = c.in-Ok-Work.ensures in
    take_accepts_none c.args.gate.now c.take.new.self c.requires.offered on.leads on.lawful c.in-Ok-Work.job (rw c.in-Ok-Work.field-0-is at on.reply)
