use Rattle.explanation.proofs.FoundRecords.{found_has_record}
use Rattle.explanation.proofs.laws.found_claim_has_a_record.Goals as goal

pub returns : goal.returns
returns c = found_has_record c.text_spells_at_most_one_plan.ensures c.files_have_rows.ensures
