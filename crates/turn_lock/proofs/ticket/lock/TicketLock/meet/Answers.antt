use Rattle.std.proofs.lemmas.Grind.{common_steps}
use Rattle.std.proofs.Common.{rules, ap, ◌∙◌, arith}
use mathlib.Core.Option.{none}
use Rattle.atomic_table.specs.Table.{step}
use Rattle.turn_lock.specs.Ticket.{stage_of}
use Rattle.turn_lock.proofs.TicketMoves.{joins_allowed, settled_idle, settles_allowed, splits_allowed}
use Rattle.turn_lock.proofs.TicketViews.{beside_idle}
use Rattle.turn_lock.proofs.ticket.lock.TicketLock.meet.Goals as goal

pub join_seat-requires : goal.join_seat-requires
join_seat-requires g c = (search rules, search rules, search rules, search rules, joins_allowed g.T.Growing.leads _ _ _ _ _ (search rules) (search rules))

pub load-requires : goal.load-requires
load-requires g c = (
  search rules,
  search rules,
  settles_allowed g.T.Growing.leads _ _ _ _ (ap (λ me. stage_of me.0) c.join_seat.ensures.2 ∙ beside_idle _ _ (search rules) (search rules)) g.T.Growing.ordered,
)

pub split_seat-second-requires : goal.split_seat-second-requires
split_seat-second-requires g c = (search rules, search rules, splits_allowed g.T.Growing.leads _ _ _ (settled_idle g.T.Growing.leads 0 (step 0 0 0 0 none) _ _ c.load.result c.load.ensures.2))

pub returns-clause-same : goal.returns-clause-same
returns-clause-same g c = grind (arith, common_steps)
