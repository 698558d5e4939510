use Rattle.std.proofs.Common.{arith}
use Rattle.std.proofs.lemmas.Grind.{common_steps}
use Rattle.turn_lock.proofs.ticket.lock.TicketLock.new_at.Goals as goal

pub new-requires : goal.new-requires
new-requires g c = grind (arith, common_steps)

pub returns-in-Ok-clause-knows : goal.returns-in-Ok-clause-knows
returns-in-Ok-clause-knows g c = grind (arith, common_steps)

pub invariant_of-result-in-Ok : goal.invariant_of-result-in-Ok
invariant_of-result-in-Ok g c = grind (arith, common_steps)
