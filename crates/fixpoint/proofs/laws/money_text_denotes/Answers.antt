use Rattle.fixpoint.proofs.MoneyText.{money_text_denotes}
use Rattle.fixpoint.proofs.laws.money_text_denotes.Goals as goal

pub returns : goal.returns
returns c = money_text_denotes
