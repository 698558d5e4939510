use Rattle.plan_checks.proofs.FaultListing.{fails_with_roles, unlisted_with_roles}
use Rattle.plan_checks.proofs.table_faults.failing_zones.Goals as goal

pub returns-clause-exact : goal.returns-clause-exact
returns-clause-exact c = fails_with_roles c.args.plan.now c.in-Some._roles.now c.pending_zones.result c.in-Some.ensures.roles c.pending_zones.ensures.exact

pub returns-clause-refused : goal.returns-clause-refused
returns-clause-refused c = unlisted_with_roles c.args.plan.now c.in-Some._roles.now c.args.limit c.pending_zones.result c.in-Some.ensures.roles c.pending_zones.ensures.refused
