use Rattle.intake_csv.proofs.OneList.{list-one}
use Rattle.intake_csv.proofs.laws.text_has_one_list_of_rows.Goals as goal

pub returns : goal.returns
returns c plan text rows others is all more =
    list-one c.text_denotes_at_most_one.ensures c.field_spells_at_most_one_value.ensures plan text rows others is all more
