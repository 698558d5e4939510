use Rattle.std.proofs.Common.{◌≡◌, ap, sym, ◌∙◌}
use Rattle.std.specs.List.{list_all}
use Rattle.tables.specs.Inputs.{is_served}
use Rattle.tables.specs.Plan.{PlanParts}
use Rattle.tables.proofs.Ready.{ready_where_served}
use Rattle.tables.proofs.plan.Plan.ready.Goals as goal

pub returns : goal.returns
returns c =
    let given = c.args.inputs.now in
    let served : c.are_served.result ≡ list_all (is_served given) c.args.self.now.tables =
    c.are_served.ensures ∙ ap (list_all (is_served given)) (c.as_slice.ensures ∙ ap (λ (p : PlanParts). p.tables) c.self.view_is) in
    let both = ready_where_served given c.args.self.now.tables in
    (λ all. both.0 (sym served ∙ all), λ ready. served ∙ both.1 ready)
