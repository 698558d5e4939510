use Rattle.std.proofs.Common.{◌≡◌, ◌∙◌, [], ap}
use Rattle.std.specs.List.{flat_map}
use Rattle.std.specs.Option.{option_map_or}
use Rattle.std.proofs.lemmas.Result.{IfOk-weaker}
use Rattle.cutplan.specs.InputClasses.{name_literals}
use Rattle.regions.specs.Regions.{stretches}
use Rattle.regions.specs.Values.{sort_values}
use Rattle.cutplan.proofs.Sorting.{collected_of_kind}
use Rattle.plan_zones.specs.Joint.{literals_by, narrowing_literals, regions_of_kind, two_plans}
use Rattle.plan_zones.proofs.JointLists.{collected_thrice}
use Rattle.plan_zones.proofs.joint_regions.all_regions.Goals as goal

pub sort_cuts-requires : goal.sort_cuts-requires
sort_cuts-requires c =
    let n = c.args.name in
    let one = option_map_or (name_literals c.args.old.now.tables) n.old [] in
    let other = option_map_or (name_literals c.args.new.now.tables) n.new [] in
    let cells = flat_map (narrowing_literals c.args.text.now) c.args.narrowed.now in
    collected_of_kind c.args.kind c.add_cells.new.found.items (literals_by (two_plans c.args.old.now c.args.new.now c.args.narrowed.now) c.args.text.now n)
    (collected_thrice c.args.kind c.new-literals.result.items c.add_plan.new.found.items c.add_plan-2.new.found.items c.add_cells.new.found.items one other cells
    c.new-literals.ensures.items c.in_ok-add_plan.ensures c.in_ok-add_plan-2.ensures c.in_ok-add_cells.ensures)

pub returns : goal.returns
returns c =
    let n = c.args.name in
    let plans = two_plans c.args.old.now c.args.new.now c.args.narrowed.now in
    let one = option_map_or (name_literals c.args.old.now.tables) n.old [] in
    let other = option_map_or (name_literals c.args.new.now.tables) n.new [] in
    let cells = flat_map (narrowing_literals c.args.text.now) c.args.narrowed.now in
    let all =
    collected_thrice c.args.kind c.new-literals.result.items c.add_plan.new.found.items c.add_plan-2.new.found.items c.add_cells.new.found.items one other cells
    c.new-literals.ensures.items c.in_ok-add_plan.ensures c.in_ok-add_plan-2.ensures c.in_ok-add_cells.ensures in
    IfOk-weaker c.regions_between.result (λ regions. regions.items ≡ stretches c.args.kind c.in_ok-cuts.cuts)
    (λ regions. regions.items ≡ regions_of_kind c.args.kind (literals_by plans c.args.text.now n))
    (λ regions made. made ∙ ap (stretches c.args.kind) (c.in_ok-cuts.ensures ∙ ap sort_values all)) c.regions_between.ensures
