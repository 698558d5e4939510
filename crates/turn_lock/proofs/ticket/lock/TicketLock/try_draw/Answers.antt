use Rattle.std.proofs.lemmas.Grind.{common_steps}
use Rattle.std.proofs.Common.{arith}
use Rattle.turn_lock.proofs.ticket.lock.TicketLock.try_draw.Goals as goal

pub returns-in-Ok-draw-clause-drawn : goal.returns-in-Ok-draw-clause-drawn
returns-in-Ok-draw-clause-drawn g c = grind (arith, common_steps)

pub returns-in-Err-draw-clause-refused : goal.returns-in-Err-draw-clause-refused
returns-in-Err-draw-clause-refused g c = grind (arith, common_steps)
