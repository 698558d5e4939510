use Rattle.std.proofs.lemmas.Grind.{common_steps}
use Rattle.std.proofs.Common.{rules, arith}
use Rattle.turn_lock.proofs.TicketMoves.{looks_allowed}
use Rattle.turn_lock.proofs.ticket.lock.TicketLock.look.Goals as goal

pub load-next-requires : goal.load-next-requires
load-next-requires g c = (search rules, search rules, looks_allowed g.T.Growing.leads _ _ _ _ c.args.pass.idle.1)

pub invariant_of-result : goal.invariant_of-result
invariant_of-result g c = search rules

pub returns-clause-looked : goal.returns-clause-looked
returns-clause-looked g c = grind (arith, common_steps)

pub returns-then-next-clause-worn : goal.returns-then-next-clause-worn
returns-then-next-clause-worn g c = grind (arith, common_steps)
