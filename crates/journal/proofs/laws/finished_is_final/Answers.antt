use Rattle.journal.proofs.Finish.{finished_final}
use Rattle.journal.proofs.laws.finished_is_final.Goals as goal

pub returns : goal.returns
returns c = finished_final
