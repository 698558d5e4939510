use Rattle.settlement.proofs.AllBound.{workspace_of_seen}
use Rattle.settlement.proofs.Determinations.{none_true}
use Rattle.settlement.proofs.deciding.Adjudicator.new.Goals as goal

pub invariant_of-result : goal.invariant_of-result
invariant_of-result g c =
    let plan = g.V.Valuer.plan_of c.args.valuer.now in
    let workspace = workspace_of_seen plan c.plan.result.now c.in_ok-workspace.workspace c.plan.ensures c.in_ok-workspace.ensures in
    (workspace, none_true (g.V.InputClasses.in_class c.args.valuer.now) plan c.in_ok-cache.cache c.in_ok-cache.ensures)
