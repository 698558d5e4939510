use Rattle.journal.specs.Leading.{leads_itself, leads_further}
use Rattle.journal.proofs.laws.leads_in_order.Goals as goal

pub returns : goal.returns
returns c = record { itself = leads_itself; on = leads_further }
