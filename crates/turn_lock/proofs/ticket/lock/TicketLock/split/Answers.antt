use Rattle.std.proofs.Common.{rules}
use Rattle.turn_lock.proofs.TicketMoves.{splits_allowed}
use Rattle.turn_lock.proofs.ticket.lock.TicketLock.split.Goals as goal

pub split_seat-other-requires : goal.split_seat-other-requires
split_seat-other-requires g c = (search rules, search rules, splits_allowed g.T.Growing.leads _ _ _ c.args.pass.idle.1)
