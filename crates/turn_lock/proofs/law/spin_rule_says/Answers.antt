use Rattle.turn_lock.proofs.SpinMoves.{one_holds, one_value}
use Rattle.turn_lock.proofs.law.spin_rule_says.Goals as goal

pub returns : goal.returns
returns g c = record { one_holds = one_holds g.T.Growing.leads; one_value = one_value g.T.Growing.leads }
