use Rattle.explanation.proofs.Ends.{ends_with_its_record}
use Rattle.explanation.proofs.laws.explanation_ends_with_its_record.Goals as goal

pub returns : goal.returns
returns c =
    ends_with_its_record c.text_spells_at_most_one_plan.ensures c.field_spells_at_most_one_value.ensures c.finished_takes_all.ensures c.order_leaves_no_choice.ensures
