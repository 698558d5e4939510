use Rattle.std.proofs.lemmas.Grind.{common_steps}
use Rattle.std.proofs.Common.{rules, arith}
use Rattle.turn_lock.proofs.TicketMoves.{leaves_from}
use Rattle.turn_lock.proofs.ticket.lock.TicketLock.leave.Goals as goal

pub fetch_add-requires : goal.fetch_add-requires
fetch_add-requires g c = (
  search rules,
  search rules,
  leaves_from g.T.Growing.leads _ _ _ c.args.holding.seat.me _ _ c.args.value c.args.holding.holds.1 c.requires.grown (search rules) (search rules) g.T.Growing.reflexive g.T.Growing.transitive,
)

pub returns-clause-knows : goal.returns-clause-knows
returns-clause-knows g c = grind (arith, common_steps)
