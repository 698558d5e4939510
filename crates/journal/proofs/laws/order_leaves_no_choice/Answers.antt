use Rattle.journal.proofs.InOrder.{order_is_one}
use Rattle.journal.proofs.laws.order_leaves_no_choice.Goals as goal

pub returns : goal.returns
returns c = order_is_one
