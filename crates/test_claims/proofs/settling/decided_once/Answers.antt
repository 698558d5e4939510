use Rattle.std.proofs.Common.{subst, rules}
use Rattle.std.specs.Option.{IsSome}
use Rattle.tables.specs.Plan.{PlanParts}
use Rattle.settlement.specs.Claim.{IsClaimOf}
use Rattle.test_claims.proofs.settling.decided_once.Goals as goal

pub decide-requires-clause-roles : goal.decide-requires-clause-roles
decide-requires-clause-roles g c =
    let has : IsSome c.plan-plan.result.now.roles = search rules in
    subst (λ (p : PlanParts). IsSome p.roles) c.plan-plan.ensures has

pub decide-requires-clause-fields : goal.decide-requires-clause-fields
decide-requires-clause-fields g c =
    let is : IsClaimOf c.plan-plan.result.now c.args.claim.now = search rules in
    subst (λ (p : PlanParts). IsClaimOf p c.args.claim.now) c.plan-plan.ensures is
