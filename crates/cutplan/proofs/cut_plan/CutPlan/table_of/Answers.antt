use Rattle.std.proofs.Common.{◌-◌, ◌≤◌, get_or, length, ap, ◌∙◌, subst, arith}
use Rattle.std.specs.List.{All}
use Rattle.tables.specs.Plan.{PlanParts}
use Rattle.cutplan.proofs.ByMasks.{got_at}
use Rattle.cutplan.proofs.Compiling.{rule_count_of}
use Rattle.cutplan.proofs.cut_plan.CutPlan.table_of.Goals as goal

pub returns-clause-table : goal.returns-clause-table
returns-clause-table c =
    let place = c.args.table - 1 in
    let t = c.index-tables-table.result in
    let low = c.requires.0 in
    let high = c.requires.1 in
    got_at c.args.self.now.tables place t (omega (arith, low, high)) (c.index-tables-table.is ∙ ap (λ ts. get_or ts place t) (c.tables.ensures.tables ∙ ap (λ (p : PlanParts). p.tables) c.self.view_is))

pub returns-clause-few : goal.returns-clause-few
returns-clause-few c =
    let few = subst (λ (p : PlanParts). All (λ t. length t.rules ≤ 256) p.tables) c.self.view_is c.self.invariant.cut.few in
    rule_count_of c.args.self.now.tables (c.args.table - 1) c.index-tables-table.result few (returns-clause-table c)
