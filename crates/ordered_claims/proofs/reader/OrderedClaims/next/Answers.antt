use Rattle.std.proofs.Common.{arith}
use Rattle.std.proofs.lemmas.Grind.{common_steps}
use Rattle.ordered_claims.proofs.Moving.{gives_whole}
use Rattle.ordered_claims.proofs.reader.OrderedClaims.next.Goals as goal

pub returns-clause-gives : goal.returns-clause-gives
returns-clause-gives c =
    let i = c.self.inside in
    let gives = rw c.in-Given.is at c.next.ensures in
    rw (← c.self.view_is)
    (gives_whole i.queues c.next.new.self c.take_from.new.self i.readers c.read_next_of.new.self c.take_from.new.readers c.in-Given.offer gives.0 c.in_ok-read_next_of.ensures.fewer c.take_from.ensures)

pub take_from-requires-clause-joined : goal.take_from-requires-clause-joined
take_from-requires-clause-joined c = grind (arith, common_steps)

pub returns-in-NoneLeft-clause-gives : goal.returns-in-NoneLeft-clause-gives
returns-in-NoneLeft-clause-gives c = grind (arith, common_steps)

pub read_next_of-requires : goal.read_next_of-requires
read_next_of-requires c = grind (arith, common_steps)

pub invariant_of-self-in_err-read_next_of : goal.invariant_of-self-in_err-read_next_of
invariant_of-self-in_err-read_next_of c = grind (arith, common_steps)

pub invariant_of-self : goal.invariant_of-self
invariant_of-self c = grind (arith, common_steps)

pub returns-in-Unread-clause-refused : goal.returns-in-Unread-clause-refused
returns-in-Unread-clause-refused c = grind (arith, common_steps)

pub take_from-requires-clause-terms : goal.take_from-requires-clause-terms
take_from-requires-clause-terms c = grind (arith, common_steps)

pub invariant_of-self-in-Unread : goal.invariant_of-self-in-Unread
invariant_of-self-in-Unread c = grind (arith, common_steps)
