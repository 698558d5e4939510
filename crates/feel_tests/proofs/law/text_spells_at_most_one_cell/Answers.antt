use Rattle.feel_tests.proofs.OneCell.{cell_one}
use Rattle.feel_tests.proofs.law.text_spells_at_most_one_cell.Goals as goal

pub returns : goal.returns
returns c kind text one other h k = cell_one c.text_denotes_at_most_one.ensures kind text one other h k
