use Rattle.std.proofs.Common.{arith}
use Rattle.std.proofs.lemmas.Grind.{common_steps}
use Rattle.journal.proofs.hints.Hints.note.Goals as goal

pub part_some-self-in-Some-get_mut-2 : goal.part_some-self-in-Some-get_mut-2
part_some-self-in-Some-get_mut-2 c = grind (arith, common_steps)

pub part_none-self : goal.part_none-self
part_none-self c = grind (arith, common_steps)
