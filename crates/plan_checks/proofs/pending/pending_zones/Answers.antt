use Rattle.std.proofs.Common.{◌∙◌, sym, arith}
use Rattle.std.proofs.lemmas.Grind.{common_steps}
use Rattle.plan_checks.proofs.Listing.{boxes_of_plan, hold_values, pend_exactly}
use Rattle.plan_checks.proofs.pending.pending_zones.Goals as goal

pub returns-clause-exact : goal.returns-clause-exact
returns-clause-exact c =
    let regions = c.in_ok-regions.ensures.regions in
    pend_exactly c.args.plan.now c.in_ok-regions.ensures.sound (sym c.role_fault.ensures ∙ c.in_default.is) c.boxes.new.outcomes c.in_ok-boxes.boxes
    (boxes_of_plan c.args.plan.now c.as_slice-2.result.now c.as_slice-3.result.now c.boxes.new.outcomes c.in_ok-boxes.boxes (c.as_slice-2.ensures ∙ regions) (c.as_slice-3.ensures ∙ regions) c.in_ok-boxes.ensures.boxes)

pub returns-clause-known : goal.returns-clause-known
returns-clause-known c = c.in_ok-boxes.ensures.boxes.known

pub returns-clause-held : goal.returns-clause-held
returns-clause-held c =
    let regions = c.in_ok-regions.ensures.regions in
    hold_values c.args.plan.now c.boxes.new.outcomes c.in_ok-boxes.boxes
    (boxes_of_plan c.args.plan.now c.as_slice-2.result.now c.as_slice-3.result.now c.boxes.new.outcomes c.in_ok-boxes.boxes (c.as_slice-2.ensures ∙ regions) (c.as_slice-3.ensures ∙ regions) c.in_ok-boxes.ensures.boxes)

pub same-regions : goal.same-regions
same-regions c = grind (arith, common_steps)

pub returns-clause-narrow : goal.returns-clause-narrow
returns-clause-narrow c = grind (arith, common_steps)

pub returns-in-Some-clause-refused : goal.returns-in-Some-clause-refused
returns-in-Some-clause-refused c = grind (arith, common_steps)

pub returns-then-zones-limit-clause-refused : goal.returns-then-zones-limit-clause-refused
returns-then-zones-limit-clause-refused c = grind (arith, common_steps)
