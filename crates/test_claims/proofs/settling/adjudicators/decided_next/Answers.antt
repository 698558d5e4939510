use Rattle.std.proofs.Common.{sym, subst, rules}
use Rattle.std.specs.Option.{IsSome}
use Rattle.tables.specs.Plan.{PlanParts}
use Rattle.settlement.specs.Claim.{IsClaimOf}
use Rattle.test_claims.proofs.settling.adjudicators.decided_next.Goals as goal

pub decide-outcome-requires-clause-roles : goal.decide-outcome-requires-clause-roles
decide-outcome-requires-clause-roles g c =
    let has : IsSome c.args.plan.now.roles = search rules in
    subst (λ (p : PlanParts). IsSome p.roles) (sym c.requires) has

pub decide-outcome-requires-clause-fields : goal.decide-outcome-requires-clause-fields
decide-outcome-requires-clause-fields g c =
    let is : IsClaimOf c.args.plan.now c.claim-claim.result = search rules in
    subst (λ (p : PlanParts). IsClaimOf p c.claim-claim.result) (sym c.requires) is

pub returns : goal.returns
returns g c = c.decide-outcome.ensures.plan
