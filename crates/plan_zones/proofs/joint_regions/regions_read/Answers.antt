use Rattle.std.proofs.Common.{◌≡◌, ◌&&◌, ◌∙◌, ap₂, filter}
use Rattle.std.proofs.lemmas.Result.{IfOk-weaker}
use Rattle.plan_zones.specs.Amounts.{is_possible_region}
use Rattle.plan_zones.specs.Joint.{joint_text, meets_in, regions_read, two_plans}
use Rattle.plan_zones.proofs.JointLists.{listed_as}
use Rattle.plan_zones.proofs.joint_regions.regions_read.Goals as goal

pub returns : goal.returns
returns c =
    let plans = two_plans c.args.old.now c.args.new.now c.args.narrowed.now in
    let n = c.args.name in
    let text = c.joint_text-text.ensures ∙ ap₂ (λ one other. joint_text one other n) c.names-old_names.ensures.names c.names-new_names.ensures.names in
    IfOk-weaker c.possible_regions.result
    (λ regions. regions ≡ filter (λ r. is_possible_region c.is_joint_amount-amount.result r && meets_in plans.narrowed c.joint_text-text.result.now r) c.as_slice.result.now)
    (λ regions. regions ≡ regions_read plans n)
    (λ regions made.
    made
    ∙ listed_as plans n c.joint_text-text.result.now c.joint_kind-kind.result c.is_joint_amount-amount.result c.as_slice.result.now text c.joint_kind-kind.ensures c.is_joint_amount-amount.ensures
    (c.as_slice.ensures.value ∙ c.in_ok-all.ensures)) c.possible_regions.ensures
