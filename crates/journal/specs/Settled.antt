-- The settlement, as journals use it: proofs about journals do not depend on how it is defined.
-- Where they do, `unfolding` opens both definitions.
use Rattle.tables.specs.Plan.{PlanParts}
use Rattle.std.specs.Prelude.{Bool}
use Rattle.settlement.specs.Accounts.{grown}
use Rattle.settlement.specs.Settlement.{outcome}
use Rattle.settlement.specs.declared.acc.Acc.{Acc}
use Rattle.settlement.specs.declared.claim.Claim.{Claim}
use Rattle.settlement.specs.declared.outcome.Outcome.{Outcome}

-- the outcome of a claim under a plan, at the accumulators of its account
unfoldable pub outcome_of : PlanParts → Claim → Acc → Outcome
outcome_of plan claim acc = outcome plan claim acc

-- the accumulators of an account after this outcome of a claim; `own` is true if the claim is of
-- this account, and `shared` if it is of the same family and year
unfoldable pub accumulated : Bool → Bool → Acc → Outcome → Acc
accumulated own shared acc decision = grown own shared acc decision
