use Rattle.feel_tests.proofs.OneTest.{literal_value}
use Rattle.feel_tests.proofs.law.text_spells_at_most_one_value.Goals as goal

pub returns : goal.returns
returns c kind text one other h k = literal_value c.text_denotes_at_most_one.ensures kind text one h.0 other k.0 h.1 k.1
