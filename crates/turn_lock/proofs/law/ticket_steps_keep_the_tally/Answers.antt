use Rattle.turn_lock.proofs.TicketMoves.{joins_keep_tally, settles_keep_tally, looks_keep_tally, draws_keep_tally, serves_keep_tally, leaves_count, exchanges_keep_tally}
use Rattle.turn_lock.proofs.law.ticket_steps_keep_the_tally.Goals as goal

pub returns : goal.returns
returns g c = record {
  joins = joins_keep_tally g.T.Growing.leads;
  settles = settles_keep_tally g.T.Growing.leads;
  looks = looks_keep_tally g.T.Growing.leads;
  draws = draws_keep_tally g.T.Growing.leads;
  serves = serves_keep_tally g.T.Growing.leads;
  leaves = leaves_count g.T.Growing.leads;
  exchanges = exchanges_keep_tally g.T.Growing.leads;
}
