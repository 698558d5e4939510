use Rattle.turn_lock.proofs.TicketWords.{one_holds, worn_for_good, none_beyond}
use Rattle.turn_lock.proofs.law.ticket_rule_says.Goals as goal

pub returns : goal.returns
returns g c = record {
  words = record { one_holds = one_holds c.args.first; one_ticket = λ s r. r.tickets_apart; worn_for_good = worn_for_good c.args.first; none_beyond = none_beyond c.args.first };
  values = record { one_value = λ s r. (r.current, λ i k at. ((r.values_seen i k at).0, λ t holds. r.was_found i k t at holds)) };
}
