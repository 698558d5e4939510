use Rattle.feel_tests.proofs.OnePlain.{plain_one}
use Rattle.feel_tests.proofs.law.field_spells_at_most_one_value.Goals as goal

pub returns : goal.returns
returns c kind text one other h k = plain_one c.text_denotes_at_most_one.ensures kind text one other h k
