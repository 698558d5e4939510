use Rattle.std.proofs.lemmas.Grind.{common_steps}
use Rattle.std.proofs.Common.{rules, sym, ap, ◌∙◌, Some, ◌∷◌, arith}
use Rattle.atomic_table.specs.Table.{rest}
use Rattle.turn_lock.proofs.ticket.lock.TicketLock.enter.Goals as goal

pub exchange-taken-requires : goal.exchange-taken-requires
exchange-taken-requires g c = let begun = c.await_turn-seat.ensures.begun in let out = ap (λ me. me.1) begun.4 in
    (search rules, (Some begun.1, out ∙ ap (λ slots. (0, Some begun.1) ∷ rest slots) (sym out)))

pub returns-clause-found : goal.returns-clause-found
returns-clause-found g c = grind (arith, common_steps)
