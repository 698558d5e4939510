use Rattle.std.proofs.Common.{ap, sym, ◌∙◌}
use Rattle.std.specs.Option.{option_copied}
use Rattle.tables.specs.Plan.{PlanParts}
use Rattle.settlement.proofs.RoleBindings.{placed_in}
use Rattle.settlement.proofs.deciding.determination_of.Goals as goal

pub by_roles-requires : goal.by_roles-requires
by_roles-requires g c =
    let plan = g.V.Valuer.plan_of c.args.valuer.now in
    let has = ap (λ (p : PlanParts). p.roles) (sym c.plan.ensures) ∙ sym c.roles.ensures.roles ∙ ap option_copied c.unwrap-roles.ensures in
    placed_in plan c.args.workspace.now.inputs c.in-Ok.env c.unwrap-roles.result.now c.args.workspace.now.roles c.in-Ok.ensures.value has c.requires.workspace.placed
