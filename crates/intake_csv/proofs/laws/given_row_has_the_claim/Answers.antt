use Rattle.intake_csv.proofs.OneRow.{begin-like}
use Rattle.intake_csv.proofs.laws.given_row_has_the_claim.Goals as goal

pub returns : goal.returns
returns c old new row rows gives left = begin-like c.text_denotes_at_most_one.ensures c.field_spells_at_most_one_value.ensures old new row rows gives left
