use Rattle.std.proofs.Common.{arith}
use Rattle.std.proofs.lemmas.Grind.{common_steps}
use Rattle.ordered_claims.proofs.queues.ClaimQueues.upcoming.Goals as goal

pub claims_before_others-requires : goal.claims_before_others-requires
claims_before_others-requires c = grind (arith, common_steps)
