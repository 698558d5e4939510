use Rattle.journal.proofs.GateMoves.{jobs_are_stable}
use Rattle.journal.proofs.laws.jobs_are_stable.Goals as goal

pub returns : goal.returns
returns c = jobs_are_stable
