use Rattle.std.proofs.Common.{◌≡◌, refl, ap, ◌∙◌}
use Rattle.std.proofs.lemmas.Result.{IfOk-weaker}
use Rattle.settlement.specs.declared.outcome.Outcome.{Outcome}
use Rattle.settlement.specs.Settlement.{determination_of, outcome, outcome_from}
use Rattle.settlement.proofs.AllBound.{ready_where_served, workspace_of_seen}
use Rattle.settlement.proofs.ReadAlike.{outcome_where_served}
use Rattle.settlement.proofs.deciding.decide.Goals as goal

pub bind-requires : goal.bind-requires
bind-requires g c =
    let workspace = workspace_of_seen (g.V.Valuer.plan_of c.args.valuer.now) c.plan.result.now c.in_ok-workspace.workspace c.plan.ensures c.in_ok-workspace.ensures in
    (g.V.Valuer.plan_of c.args.valuer.now, workspace, c.requires.fields)

pub determination_of-requires-clause-workspace : goal.determination_of-requires-clause-workspace
determination_of-requires-clause-workspace g c =
    let workspace = workspace_of_seen (g.V.Valuer.plan_of c.args.valuer.now) c.plan.result.now c.in_ok-workspace.workspace c.plan.ensures c.in_ok-workspace.ensures in
    c.bind.ensures.workspace (g.V.Valuer.plan_of c.args.valuer.now) workspace

pub determination_of-requires-clause-ready : goal.determination_of-requires-clause-ready
determination_of-requires-clause-ready g c =
    let plan = g.V.Valuer.plan_of c.args.valuer.now in
    let workspace = workspace_of_seen (g.V.Valuer.plan_of c.args.valuer.now) c.plan.result.now c.in_ok-workspace.workspace c.plan.ensures c.in_ok-workspace.ensures in
    let serves = c.in_ok-bind.ensures.serves plan workspace c.requires.fields in
    ready_where_served plan c.args.claim.now c.args.acc c.bind.new.self.inputs workspace.laid_out.sound c.requires.fields serves

pub returns : goal.returns
returns g c =
    let plan = g.V.Valuer.plan_of c.args.valuer.now in
    let claim = c.args.claim.now in
    let given = c.bind.new.self.inputs in
    let workspace = workspace_of_seen (g.V.Valuer.plan_of c.args.valuer.now) c.plan.result.now c.in_ok-workspace.workspace c.plan.ensures c.in_ok-workspace.ensures in
    let serves = c.in_ok-bind.ensures.serves plan workspace c.requires.fields in
    let by_plan = ap (outcome_from claim.billed c.args.acc) {y = determination_of plan given} c.in_ok-determination.ensures ∙ outcome_where_served plan plan claim c.args.acc given refl serves in
    let by_found : Outcome → Type 0 = λ decided. decided ≡ outcome_from claim.billed c.args.acc c.in_ok-determination.determination in
    let by_claim : Outcome → Type 0 = λ decided. decided ≡ outcome plan claim c.args.acc in
    IfOk-weaker c.outcome.result by_found by_claim (λ decided is. is ∙ by_plan) c.outcome.ensures
