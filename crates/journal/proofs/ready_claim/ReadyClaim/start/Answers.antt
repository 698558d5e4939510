use Rattle.std.proofs.Common.{rules}
use Rattle.journal.proofs.ready_claim.ReadyClaim.start.Goals as goal

pub returns : goal.returns
returns c = search rules
