use Rattle.std.proofs.Common.{◌∙◌, ap, arith}
use Rattle.std.proofs.lemmas.Grind.{common_steps}
use Rattle.plan_zones.specs.Changes.{plans_of}
use Rattle.plan_zones.specs.Joint.{joint_regions}
use Rattle.plan_checks.proofs.Changing.{have_changes, boxes_of_plans, differ_exactly, hold_joint_values}
use Rattle.plan_zones.proofs.Joined.{refused_on}
use Rattle.plan_checks.proofs.changes.plan_changes.Goals as goal

pub returns-clause-exact : goal.returns-clause-exact
returns-clause-exact c =
    let plans = plans_of c.args.old.now c.args.new.now c.args.comparing.now in
    let joint = c.in_ok-joint.joint in
    let regions = c.as_slice-choices.ensures ∙ c.in_ok-regions.ensures ∙ ap (joint_regions plans) c.as_slice.ensures in
    differ_exactly c.args.comparing.now.terms_only plans joint c.in_ok-joint.ensures.old_sound c.in_ok-joint.ensures.new_sound c.in_ok-joint.ensures.old_roles c.in_ok-joint.ensures.new_roles
    c.in_ok-joint.ensures.old c.in_ok-joint.ensures.new c.in_ok-joint.ensures.kinds c.boxes_of_changes.new.changes c.in_ok-boxes.boxes
    (boxes_of_plans c.args.comparing.now.terms_only plans joint c.as_slice-choices.result.now c.boxes_of_changes.new.changes c.in_ok-boxes.boxes regions c.in_ok-boxes.ensures)

pub returns-clause-known : goal.returns-clause-known
returns-clause-known c =
    let plans = plans_of c.args.old.now c.args.new.now c.args.comparing.now in
    let joint = c.in_ok-joint.joint in
    let regions = c.as_slice-choices.ensures ∙ c.in_ok-regions.ensures ∙ ap (joint_regions plans) c.as_slice.ensures in
    have_changes c.args.comparing.now.terms_only plans joint c.in_ok-joint.ensures.old_sound c.in_ok-joint.ensures.new_sound c.in_ok-joint.ensures.old_roles c.in_ok-joint.ensures.new_roles
    c.in_ok-joint.ensures.old c.in_ok-joint.ensures.new c.in_ok-joint.ensures.kinds c.boxes_of_changes.new.changes c.in_ok-boxes.boxes
    (boxes_of_plans c.args.comparing.now.terms_only plans joint c.as_slice-choices.result.now c.boxes_of_changes.new.changes c.in_ok-boxes.boxes regions c.in_ok-boxes.ensures)

pub returns-clause-held : goal.returns-clause-held
returns-clause-held c =
    let plans = plans_of c.args.old.now c.args.new.now c.args.comparing.now in
    let joint = c.in_ok-joint.joint in
    let regions = c.as_slice-choices.ensures ∙ c.in_ok-regions.ensures ∙ ap (joint_regions plans) c.as_slice.ensures in
    hold_joint_values c.args.comparing.now.terms_only plans joint c.in_ok-joint.ensures.old_sound c.in_ok-joint.ensures.new_sound c.in_ok-joint.ensures.old_roles c.in_ok-joint.ensures.new_roles
    c.in_ok-joint.ensures.old c.in_ok-joint.ensures.new c.in_ok-joint.ensures.kinds c.boxes_of_changes.new.changes c.in_ok-boxes.boxes
    (boxes_of_plans c.args.comparing.now.terms_only plans joint c.as_slice-choices.result.now c.boxes_of_changes.new.changes c.in_ok-boxes.boxes regions c.in_ok-boxes.ensures)

pub returns-in_err-joint-clause-refused : goal.returns-in_err-joint-clause-refused
returns-in_err-joint-clause-refused c =
    refused_on c.args.old.now c.args.new.now c.args.comparing.now c.args.limit c.from_residual.result _ c.from_residual.ensures.1 (c.in_err-joint.ensures.refused c.args.limit)

pub same-regions : goal.same-regions
same-regions c = grind (arith, common_steps)

pub returns-clause-regions : goal.returns-clause-regions
returns-clause-regions c = grind (arith, common_steps)

pub returns-clause-narrow : goal.returns-clause-narrow
returns-clause-narrow c = grind (arith, common_steps)

pub returns-then-zones-limit-clause-refused : goal.returns-then-zones-limit-clause-refused
returns-then-zones-limit-clause-refused c = grind (arith, common_steps)
