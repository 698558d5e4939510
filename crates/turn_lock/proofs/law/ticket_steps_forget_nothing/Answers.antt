use Rattle.turn_lock.proofs.TicketMoves.{joins_remember, settles_remember, looks_remember, draws_remember, serves_remember, leaves_remember, exchanges_remember}
use Rattle.turn_lock.proofs.law.ticket_steps_forget_nothing.Goals as goal

pub returns : goal.returns
returns g c = record {
  joins = joins_remember g.T.Growing.leads g.T.Growing.reflexive;
  settles = settles_remember g.T.Growing.leads g.T.Growing.reflexive;
  looks = looks_remember g.T.Growing.leads g.T.Growing.reflexive;
  draws = draws_remember g.T.Growing.leads g.T.Growing.reflexive;
  serves = serves_remember g.T.Growing.leads g.T.Growing.reflexive;
  leaves = leaves_remember g.T.Growing.leads g.T.Growing.reflexive;
  exchanges = exchanges_remember g.T.Growing.leads g.T.Growing.reflexive;
}
