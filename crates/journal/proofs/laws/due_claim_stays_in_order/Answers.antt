use Rattle.journal.proofs.InOrder.{stays_in_order}
use Rattle.journal.proofs.laws.due_claim_stays_in_order.Goals as goal

pub returns : goal.returns
returns c = stays_in_order
