use Rattle.std.proofs.Common.{arith}
use Rattle.std.proofs.lemmas.Grind.{common_steps}
use Rattle.journal.specs.Settled.{outcome_of}
use Rattle.test_gate.proofs.tests.seats.decide_once.Goals as goal

pub returns : goal.returns
unfolding outcome_of
returns g c = rw (← c.plan-plan.ensures.plan) c.decide.ensures

pub decide-requires-clause-fields : goal.decide-requires-clause-fields
decide-requires-clause-fields g c = grind (arith, common_steps)
