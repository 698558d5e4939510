use Rattle.dtable.proofs.ReadOnce.{spells_one_plan}
use Rattle.dtable.proofs.reading.text_spells_at_most_one_plan.Goals as goal

pub returns : goal.returns
returns c = spells_one_plan c.text_spells_at_most_one_cell.ensures c.text_spells_at_most_one_value.ensures
