use Rattle.orders.proofs.Journals.{ordered_journal}
use Rattle.orders.proofs.laws.order_has_a_journal.Goals as goal

pub returns : goal.returns
returns c = λ order T. ordered_journal T order
