use Rattle.journal.specs.Leading.{leads_either}
use Rattle.journal.proofs.laws.histories_are_linear.Goals as goal

pub returns : goal.returns
returns c = leads_either
