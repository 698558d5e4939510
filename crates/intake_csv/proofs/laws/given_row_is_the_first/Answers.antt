use Rattle.intake_csv.proofs.OneRow.{begin-with}
use Rattle.intake_csv.proofs.laws.given_row_is_the_first.Goals as goal

pub returns : goal.returns
returns c old new row rows apart gives left =
    begin-with c.text_denotes_at_most_one.ensures c.field_spells_at_most_one_value.ensures old new row rows apart gives left
