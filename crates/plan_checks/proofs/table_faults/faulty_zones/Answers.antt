use Rattle.std.proofs.Common.{◌∙◌, arith}
use Rattle.std.proofs.lemmas.Grind.{common_steps}
use Rattle.plan_checks.proofs.FaultListing.{boxes_of_plan, faults_exactly, hold_values}
use Rattle.plan_checks.proofs.table_faults.faulty_zones.Goals as goal

pub returns-clause-exact : goal.returns-clause-exact
returns-clause-exact c =
    let regions = c.in_ok-regions.ensures.regions in
    faults_exactly c.args.plan.now c.in_ok-regions.ensures.sound c.boxes.new.outcomes c.in_ok-boxes.boxes
    (boxes_of_plan c.args.plan.now c.tables.result.now c.as_slice-2.result.now c.as_slice-3.result.now c.boxes.new.outcomes c.in_ok-boxes.boxes c.tables.ensures.tables (c.as_slice-2.ensures ∙ regions)
    (c.as_slice-3.ensures ∙ regions) c.in_ok-boxes.ensures.boxes)

pub returns-clause-held : goal.returns-clause-held
returns-clause-held c =
    let regions = c.in_ok-regions.ensures.regions in
    hold_values c.args.plan.now c.boxes.new.outcomes c.in_ok-boxes.boxes
    (boxes_of_plan c.args.plan.now c.tables.result.now c.as_slice-2.result.now c.as_slice-3.result.now c.boxes.new.outcomes c.in_ok-boxes.boxes c.tables.ensures.tables (c.as_slice-2.ensures ∙ regions)
    (c.as_slice-3.ensures ∙ regions) c.in_ok-boxes.ensures.boxes)

pub same-regions : goal.same-regions
same-regions c = grind (arith, common_steps)

pub returns-then-zones-limit-clause-refused : goal.returns-then-zones-limit-clause-refused
returns-then-zones-limit-clause-refused c = grind (arith, common_steps)

pub returns-clause-narrow : goal.returns-clause-narrow
returns-clause-narrow c = grind (arith, common_steps)
