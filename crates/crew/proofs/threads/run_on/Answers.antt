use Rattle.std.proofs.lemmas.Grind.{common_steps}
use Rattle.faults.specs.declared.run_fault.RunFault.TheVariants.{OutOfMemory}
use Rattle.std.proofs.Common.{refl, rules, ◌∙◌, arith}
use Rattle.journal.specs.Leading.{leads_itself}
use Rattle.crew.proofs.Results.{memory_not_stopped, memory_not_workers, not_for_workers}
use Rattle.crew.proofs.threads.run_on.Goals as goal

pub returns-then-not-may_have-clause-seen_back : goal.returns-then-not-may_have-clause-seen_back
returns-then-not-may_have-clause-seen_back g c = leads_itself (g.G.Gate.known c.args.pass).seen

pub returns-then-not-may_have-clause-ended : goal.returns-then-not-may_have-clause-ended
returns-then-not-may_have-clause-ended g c other = absurd (other refl)

pub returns-in_default-clause-back : goal.returns-in_default-clause-back
returns-in_default-clause-back g c = search rules

pub returns-in_default-clause-seen_back : goal.returns-in_default-clause-seen_back
returns-in_default-clause-seen_back g c = search rules

pub returns-in_default-clause-refused : goal.returns-in_default-clause-refused
returns-in_default-clause-refused g c = not_for_workers c.args.workers OutOfMemory (c.if-not-may_have.ensures.0 refl) memory_not_workers

pub returns-in_default-clause-stopped : goal.returns-in_default-clause-stopped
returns-in_default-clause-stopped g c other = absurd (memory_not_stopped other)

pub returns-in_default-clause-ended : goal.returns-in_default-clause-ended
returns-in_default-clause-ended g c other = search rules

pub returns-in-Ok-in_threads-clause-own : goal.returns-in-Ok-in_threads-clause-own
returns-in-Ok-in_threads-clause-own g c = c.in-Ok-in_threads.ensures.goes_on.own

pub returns-in-Ok-in_threads-clause-seen : goal.returns-in-Ok-in_threads-clause-seen
returns-in-Ok-in_threads-clause-seen g c = c.in-Ok-in_threads.ensures.goes_on.seen

pub returns-in-Ok-in_threads-clause-finished : goal.returns-in-Ok-in_threads-clause-finished
returns-in-Ok-in_threads-clause-finished g c = c.in-Ok-in_threads.ensures.finished

pub returns-in-Ok-in_threads-clause-workers : goal.returns-in-Ok-in_threads-clause-workers
returns-in-Ok-in_threads-clause-workers g c = c.if-not-may_have.ensures.0 refl

pub returns-clause-back : goal.returns-clause-back
returns-clause-back g c = c.in-Err.ensures.leaves.goes_on.own

pub returns-clause-seen_back : goal.returns-clause-seen_back
returns-clause-seen_back g c = c.in-Err.ensures.leaves.goes_on.seen

pub returns-clause-refused : goal.returns-clause-refused
returns-clause-refused g c =
    not_for_workers c.args.workers c.least_with.result (c.if-not-may_have.ensures.0 refl) (λ is. c.in-Err.ensures.leaves.fault (c.least_with.ensures.workers is))

pub returns-clause-stopped : goal.returns-clause-stopped
returns-clause-stopped g c is = c.in-Err.ensures.leaves.stopped (c.least_with.ensures.stopped is)

pub returns-clause-ended : goal.returns-clause-ended
returns-clause-ended g c other = c.in-Err.ensures.ended

pub in_threads-requires-clause-plan : goal.in_threads-requires-clause-plan
in_threads-requires-clause-plan g c κs within = c.in-Ok.ensures ∙ c.plan.ensures.plan

pub in_threads-requires-clause-workers : goal.in_threads-requires-clause-workers
in_threads-requires-clause-workers g c κs within = c.if-not-may_have.ensures.0 refl

pub returns-then-not-may_have-clause-stopped : goal.returns-then-not-may_have-clause-stopped
returns-then-not-may_have-clause-stopped c = grind (arith, common_steps)

pub returns-in-Ok-in_threads-clause-refused : goal.returns-in-Ok-in_threads-clause-refused
returns-in-Ok-in_threads-clause-refused c = grind (arith, common_steps)

pub returns-in-Ok-in_threads-clause-stopped : goal.returns-in-Ok-in_threads-clause-stopped
returns-in-Ok-in_threads-clause-stopped c = grind (arith, common_steps)

pub returns-in-Ok-in_threads-clause-seen_back : goal.returns-in-Ok-in_threads-clause-seen_back
returns-in-Ok-in_threads-clause-seen_back c = grind (arith, common_steps)

pub returns-clause-workers : goal.returns-clause-workers
returns-clause-workers c = grind (arith, common_steps)

pub returns-then-not-may_have-clause-back : goal.returns-then-not-may_have-clause-back
returns-then-not-may_have-clause-back c = grind (arith, common_steps)

pub returns-clause-finished : goal.returns-clause-finished
returns-clause-finished c = grind (arith, common_steps)

pub returns-in-Ok-in_threads-clause-back : goal.returns-in-Ok-in_threads-clause-back
returns-in-Ok-in_threads-clause-back c = grind (arith, common_steps)

pub returns-then-not-may_have-clause-refused : goal.returns-then-not-may_have-clause-refused
returns-then-not-may_have-clause-refused c = grind (arith, common_steps)

pub returns-in-Ok-in_threads-clause-ended : goal.returns-in-Ok-in_threads-clause-ended
returns-in-Ok-in_threads-clause-ended c = grind (arith, common_steps)

pub stop-requires-clause-terms : goal.stop-requires-clause-terms
stop-requires-clause-terms c = grind (arith, common_steps)

pub returns-clause-seen : goal.returns-clause-seen
returns-clause-seen c = grind (arith, common_steps)

pub returns-clause-own : goal.returns-clause-own
returns-clause-own c = grind (arith, common_steps)
