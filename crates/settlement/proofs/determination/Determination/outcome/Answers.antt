use Rattle.std.proofs.Common.{rules}
use Rattle.settlement.proofs.determination.Determination.outcome.Goals as goal

pub returns-in_ok-share-in-Denied : goal.returns-in_ok-share-in-Denied
returns-in_ok-share-in-Denied c = search rules
