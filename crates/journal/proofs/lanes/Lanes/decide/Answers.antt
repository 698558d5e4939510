use Rattle.std.proofs.Common.{arith}
use Rattle.std.proofs.lemmas.Grind.{elements, common_steps}
use Rattle.journal.proofs.Moves.{StaysFound, decide-kept, decide-places, work-next}
use Rattle.journal.proofs.lanes.Lanes.decide.Goals as goal

pub decide-requires-clause-next : goal.decide-requires-clause-next
decide-requires-clause-next c =
    work-next c.self.inside.names c.self.inside.queues c.args.position c.self.invariant (rw (← c.self.view_is) at c.requires)

-- the indices of last positions do not change
found : (c : goal.After-decide) → StaysFound c.self.inside.queues c.decide.new.self
found c = record { ends = c.decide.ensures.ends; lasts = c.decide.ensures.lasts }

pub invariant_of-self : goal.invariant_of-self
invariant_of-self c =
    let e = c.decide.ensures in
    decide-kept c.self.inside.names c.self.inside.queues c.decide.new.self c.args.position c.args.left c.decide.result c.self.invariant
    (rw (← c.self.view_is) at c.requires) e.decided (found c) e.refused

pub returns-clause-decided : goal.returns-clause-decided
returns-clause-decided c =
    rw (← c.self.view_is) (
    decide-places c.self.inside.names c.self.inside.queues c.decide.new.self c.args.position c.args.left c.decide.result c.self.invariant
    (rw (← c.self.view_is) at c.requires) c.decide.ensures.decided
    )

pub returns-clause-in_turn : goal.returns-clause-in_turn
returns-clause-in_turn c =
    let e = c.decide.ensures in
    (decide-kept c.self.inside.names c.self.inside.queues c.decide.new.self c.args.position c.args.left c.decide.result c.self.invariant
    (rw (← c.self.view_is) at c.requires) e.decided (found c) e.refused).in_turn

pub decide-requires-clause-within : goal.decide-requires-clause-within
decide-requires-clause-within c = grind (arith, elements)

pub returns-clause-refused : goal.returns-clause-refused
returns-clause-refused c = grind (arith, common_steps)
