use Rattle.turn_lock.proofs.SpinMoves.{opens, splits, takes_allowed, frees_allowed}
use Rattle.turn_lock.proofs.law.spin_steps_keep_the_rule.Goals as goal

pub returns : goal.returns
returns g c = record {
  opens = opens g.T.Growing.leads g.T.Growing.reflexive;
  splits = splits g.T.Growing.leads;
  takes = λ slots id me idle. takes_allowed g.T.Growing.leads slots id me idle.1 g.T.Growing.reflexive;
  frees = λ slots id me value holds carried grown. frees_allowed g.T.Growing.leads slots id me value holds carried grown g.T.Growing.reflexive g.T.Growing.transitive;
}
