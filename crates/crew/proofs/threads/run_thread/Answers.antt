use Rattle.std.proofs.Common.{◌∙◌, arith}
use Rattle.std.proofs.lemmas.Grind.{common_steps}
use Rattle.gate_calls.proofs.Passes.{further, leaves_for_memory}
use Rattle.crew.proofs.threads.run_thread.Goals as goal

pub stop-requires-clause-own : goal.stop-requires-clause-own
stop-requires-clause-own g c κs within = c.in-Err.ensures.leaves.goes_on.own

pub stop-requires-clause-terms : goal.stop-requires-clause-terms
stop-requires-clause-terms g c κs within = c.in-Err.ensures.leaves.goes_on.seen.terms ∙ c.requires.terms

pub returns-in-OutOfMemory-clause-leaves : goal.returns-in-OutOfMemory-clause-leaves
returns-in-OutOfMemory-clause-leaves g c =
    let own = g.G.Gate.has_pass c.args.shared.now.gate.now in
    let known = g.G.Gate.known in
    leaves_for_memory own known g.G.Gate.is_worn c.args.pass c.stop.result
    (further own known c.args.pass c.in-Err.exit.pass c.stop.result c.in-Err.ensures.leaves.goes_on (record { own = c.stop.ensures.own; seen = c.stop.ensures.seen }))

pub returns-in-OutOfMemory-clause-ended : goal.returns-in-OutOfMemory-clause-ended
returns-in-OutOfMemory-clause-ended g c = c.stop.ensures.stopped

pub returns-in_default-clause-leaves : goal.returns-in_default-clause-leaves
returns-in_default-clause-leaves g c = c.in-Err.ensures.leaves

pub returns-in_default-clause-ended : goal.returns-in_default-clause-ended
returns-in_default-clause-ended g c = c.in-Err.ensures.leaves.ended c.in_default.not-OutOfMemory

pub returns-in-Ok-clause-goes_on : goal.returns-in-Ok-clause-goes_on
returns-in-Ok-clause-goes_on c = grind (arith, common_steps)

pub returns-in_default-clause-finished : goal.returns-in_default-clause-finished
returns-in_default-clause-finished c = grind (arith, common_steps)

pub do_part-requires-clause-plan : goal.do_part-requires-clause-plan
do_part-requires-clause-plan c = grind (arith, common_steps)

pub returns-in-Ok-clause-finished : goal.returns-in-Ok-clause-finished
returns-in-Ok-clause-finished c = grind (arith, common_steps)

pub returns-in_default-clause-goes_on : goal.returns-in_default-clause-goes_on
returns-in_default-clause-goes_on c = grind (arith, common_steps)
