-- The workspace of a plan, and the claims that are settled with it.
use Rattle.tables.specs.Plan.{PlanParts}
use Rattle.settlement.specs.declared.claim.Claim.{Claim}
use Rattle.settlement.specs.declared.workspace.Workspace.{Workspace}
use Rattle.settlement.specs.Claim.{IsClaimOf}
use Rattle.settlement.specs.Reads.{IsLaidOut}
use Rattle.settlement.specs.RoleBindings.{ArePlacedFor}

-- the workspace has the slots and the places of roles that the plan needs
pub record IsWorkspaceOf (plan : PlanParts) (workspace : Workspace) : Type 0 where
  pub laid_out : IsLaidOut plan workspace.places workspace.inputs
  pub placed : ArePlacedFor plan workspace.roles

-- the workspace is that of a plan that the claim fits
abbrev pub FitsIn : Workspace → Claim → Type 0
FitsIn workspace claim = (plan : PlanParts) × IsWorkspaceOf plan workspace × IsClaimOf plan claim
