use Rattle.orders.proofs.Existence.{order_is_whole}
use Rattle.orders.proofs.laws.order_takes_all_claims.Goals as goal

pub returns : goal.returns
returns c = order_is_whole
