use Rattle.std.proofs.Common.{arith}
use Rattle.std.proofs.lemmas.Grind.{elements}
use Rattle.remit_records.proofs.decisions.Notes.note_decisions.Goals as goal

pub returns : goal.returns
returns c = grind (arith, elements)
