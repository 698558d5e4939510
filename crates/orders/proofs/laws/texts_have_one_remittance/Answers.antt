use Rattle.orders.proofs.RunTexts.{one_remittance}
use Rattle.orders.proofs.laws.texts_have_one_remittance.Goals as goal

pub returns : goal.returns
returns c = one_remittance c.text_spells_at_most_one_plan.ensures c.texts_have_one_ordered_remittance.ensures
