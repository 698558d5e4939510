use Rattle.std.proofs.lemmas.Grind.{common_steps}
use Rattle.std.proofs.Common.{rules, arith}
use Rattle.turn_lock.proofs.TicketMoves.{draws_allowed}
use Rattle.turn_lock.proofs.ticket.lock.TicketLock.draw.Goals as goal

pub compare_exchange-found-requires : goal.compare_exchange-found-requires
compare_exchange-found-requires g c = (search rules, search rules, draws_allowed g.T.Growing.leads _ _ _ _ _ c.args.looked.looked.1 c.args.looked.looked.2 c.args.looked.left)

pub invariant_of-result-2 : goal.invariant_of-result-2
invariant_of-result-2 g c = search rules

pub invariant_of-result : goal.invariant_of-result
invariant_of-result g c = search rules

pub returns-then-found-next-clause-drawn : goal.returns-then-found-next-clause-drawn
returns-then-found-next-clause-drawn g c = grind (arith, common_steps)
