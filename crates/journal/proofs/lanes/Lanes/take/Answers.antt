use Rattle.std.proofs.Common.{arith}
use Rattle.std.proofs.lemmas.Grind.{common_steps}
use Rattle.journal.proofs.Moves.{first-ready, take-kept, take-picked, take-places}
use Rattle.journal.proofs.lanes.Lanes.take.Goals as goal

pub take-requires : goal.take-requires
take-requires c = first-ready c.self.inside.names c.self.inside.queues c.self.invariant

pub invariant_of-self : goal.invariant_of-self
invariant_of-self c = take-kept c.self.inside.names c.self.inside.queues c.take.new.self c.take.result c.self.invariant c.take.ensures

pub returns-clause-picked : goal.returns-clause-picked
returns-clause-picked c =
    rw (← c.self.view_is) (take-picked c.self.inside.names c.self.inside.queues c.take.new.self c.take.result c.self.invariant c.take.ensures)

pub returns-clause-taken : goal.returns-clause-taken
returns-clause-taken c =
    rw (← c.self.view_is) (take-places c.self.inside.names c.self.inside.queues c.take.new.self c.take.result c.take.ensures)

pub returns-clause-in_turn : goal.returns-clause-in_turn
returns-clause-in_turn c =
    (take-kept c.self.inside.names c.self.inside.queues c.take.new.self c.take.result c.self.invariant c.take.ensures).in_turn

pub returns-clause-unchanged : goal.returns-clause-unchanged
returns-clause-unchanged c = grind (arith, common_steps)
