use Rattle.std.proofs.Common.{◌∙◌, ap}
use Rattle.std.proofs.lemmas.Result.{IfOk-weaker}
use Rattle.plan_zones.specs.Boxes.{AreBoxesOf}
use Rattle.plan_zones.specs.Changes.{ChangesIn, HasChange, says_by}
use Rattle.plan_zones.specs.Joint.{by_places}
use Rattle.plan_checks.proofs.Changing.{boxes_by}
use Rattle.plan_checks.proofs.change_survey.boxes_of_changes.Goals as goal

pub returns : goal.returns
returns c =
    let t = c.args.comparing.now.terms_only in
    let old = c.args.old.now in
    let new = c.args.new.now in
    let joint = c.args.joint.now in
    let made = c.args.regions.now in
    let changes = c.boxes.new.outcomes in
    let old_places = c.as_slice-old_places in
    let new_places = c.as_slice-new_places in
    let old_choices = c.as_slice-old_choices in
    let new_choices = c.as_slice-new_choices in
    let old_made = old_choices.ensures ∙ c.in_ok-old_regions.ensures ∙ ap (λ places. by_places places made) old_places.ensures in
    let new_made = new_choices.ensures ∙ c.in_ok-new_regions.ensures ∙ ap (λ places. by_places places made) new_places.ensures in
    IfOk-weaker c.boxes.result
    (AreBoxesOf changes
    (λ zone. HasChange (says_by t old old_places.result.now old_choices.result.now zone) (says_by t new new_places.result.now new_choices.result.now zone)) made)
    (AreBoxesOf changes (ChangesIn t old new joint made) made)
    (λ boxes are.
    boxes_by t old new joint made changes boxes old_places.result.now new_places.result.now old_choices.result.now new_choices.result.now old_places.ensures new_places.ensures old_made new_made are)
    c.boxes.ensures.boxes
