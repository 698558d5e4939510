use Rattle.std.proofs.lemmas.Grind.{common_steps}
use Rattle.std.proofs.Common.{rules, sym, ap, ◌∙◌, Some, ◌∷◌, arith}
use Rattle.atomic_table.specs.Table.{rest}
use Rattle.turn_lock.proofs.spin.lock.SpinLockSection.lock.Goals as goal

pub exchange-taken-requires : goal.exchange-taken-requires
exchange-taken-requires g c = let won = c.win-seat.ensures.won in
    (search rules, (Some won.0, won.3 ∙ ap (λ slots. (0, Some won.0) ∷ rest slots) (sym won.3)))

pub returns-clause-found : goal.returns-clause-found
returns-clause-found g c = grind (arith, common_steps)
