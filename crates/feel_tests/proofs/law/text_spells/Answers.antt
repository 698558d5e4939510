use Rattle.feel_tests.proofs.ReadBack.{text_back}
use Rattle.feel_tests.proofs.law.text_spells.Goals as goal

pub returns : goal.returns
returns c = text_back c.args.text.now (c.utf8.text, c.requires)
