use Rattle.fixpoint.proofs.Numbers.{same_worth}
use Rattle.fixpoint.proofs.laws.text_denotes_at_most_one.Goals as goal

pub returns : goal.returns
returns c = λ bytes one other p q. same_worth bytes one other p.worth q.worth
