use Rattle.std.proofs.Common.{arith}
use Rattle.std.proofs.lemmas.Grind.{common_steps}
use Rattle.remit_records.proofs.decisions.note_place.Goals as goal

pub returns-else-position-len : goal.returns-else-position-len
returns-else-position-len c = grind (arith, common_steps)
