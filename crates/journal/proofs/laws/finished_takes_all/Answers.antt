use Rattle.journal.proofs.Finish.{finished_count}
use Rattle.journal.proofs.laws.finished_takes_all.Goals as goal

pub returns : goal.returns
returns c = finished_count
