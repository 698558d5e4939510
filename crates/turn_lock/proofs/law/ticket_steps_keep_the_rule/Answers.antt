use Rattle.std.proofs.Common.{arith, sym, ap, ◌∙◌}
use mathlib.Core.Option.{some}
use Rattle.turn_lock.proofs.TicketMoves.{opens, splits_allowed, joins_allowed, settles_allowed, looks_allowed, draws_allowed, serves_allowed, leaves_allowed}
use Rattle.turn_lock.proofs.law.ticket_steps_keep_the_rule.Goals as goal

pub returns : goal.returns
returns g c = record {
  opens = opens g.T.Growing.leads c.args.first g.T.Growing.reflexive (omega arith);
  splits = splits_allowed g.T.Growing.leads c.args.first;
  joins = joins_allowed g.T.Growing.leads c.args.first;
  settles = λ slots id me is. settles_allowed g.T.Growing.leads c.args.first slots id me is g.T.Growing.ordered;
  looks = looks_allowed g.T.Growing.leads c.args.first;
  draws = draws_allowed g.T.Growing.leads c.args.first;
  serves = λ slots id me ticket empty is. serves_allowed g.T.Growing.leads c.args.first slots id me ticket empty is g.T.Growing.reflexive;
  leaves = λ slots id me ticket value is carried grown. leaves_allowed g.T.Growing.leads c.args.first slots id me ticket value is carried grown g.T.Growing.reflexive g.T.Growing.transitive;
  exchanges = λ s id me me' new r at reported. (r, at ∙ ap (λ m. some m.0) (sym reported.2));
}
