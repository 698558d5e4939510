use Rattle.run_lists.proofs.CarryingOn.{carries_on, closes_alike}
use Rattle.run_lists.proofs.closing.laws.closing_balances_carry_on.Goals as goal

pub returns : goal.returns
returns c = record { decides = carries_on; closes = closes_alike }
