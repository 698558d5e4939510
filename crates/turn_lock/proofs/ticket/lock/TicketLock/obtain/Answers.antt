use Rattle.std.proofs.lemmas.Grind.{common_steps}
use Rattle.std.proofs.Common.{arith}
use Rattle.turn_lock.proofs.ticket.lock.TicketLock.obtain.Goals as goal

pub returns-in-Err-Worn-default-clause-worn : goal.returns-in-Err-Worn-default-clause-worn
returns-in-Err-Worn-default-clause-worn g c = grind (arith, common_steps)

pub returns-in-Ok-clause-drawn : goal.returns-in-Ok-clause-drawn
returns-in-Ok-clause-drawn g c = grind (arith, common_steps)

pub loop-preserved : goal.loop-preserved
loop-preserved g c = grind (arith, common_steps)
