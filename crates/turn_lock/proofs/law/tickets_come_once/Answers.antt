use Rattle.turn_lock.proofs.TicketLater.{words_rise, drawn_once, left_for_good}
use Rattle.turn_lock.proofs.law.tickets_come_once.Goals as goal

pub returns : goal.returns
returns g c = record {
  words_rise = words_rise g.T.Growing.leads c.args.first;
  drawn_once = drawn_once g.T.Growing.leads c.args.first;
  left_for_good = left_for_good g.T.Growing.leads c.args.first;
}
