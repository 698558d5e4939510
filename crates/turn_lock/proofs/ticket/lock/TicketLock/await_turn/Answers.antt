use Rattle.std.proofs.lemmas.Grind.{common_steps}
use Rattle.std.proofs.Common.{rules, ap, ◌∙◌, arith}
use mathlib.Core.Option.{none}
use Rattle.atomic_table.specs.Table.{step}
use Rattle.turn_lock.specs.Ticket.{stage_of}
use Rattle.turn_lock.proofs.TicketMoves.{serves_allowed}
use Rattle.turn_lock.proofs.TicketViews.{begun}
use Rattle.turn_lock.proofs.ticket.lock.TicketLock.await_turn.Goals as goal

pub load-served-requires : goal.load-served-requires
load-served-requires g c = (
  search rules,
  search rules,
  serves_allowed g.T.Growing.leads _ _ _ _ _ (ap (λ me. me.1) c.loop.invariant.1 ∙ c.requires.waiting.0) (ap (λ me. stage_of me.0) c.loop.invariant.1 ∙ c.requires.waiting.1) g.T.Growing.reflexive,
)

pub returns-then-served-ticket-clause-begun : goal.returns-then-served-ticket-clause-begun
returns-then-served-ticket-clause-begun g c = begun g.T.Growing.leads (step 0 0 0 0 none) _ _ _ _ _ c.loop.invariant.1 c.requires.waiting.1 c.load-served.ensures.2 (search rules)

pub loop-preserved : goal.loop-preserved
loop-preserved g c = grind (arith, common_steps)
