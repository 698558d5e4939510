use Rattle.std.proofs.Common.{sym, ◌∙◌}
use Rattle.cutplan.proofs.ClassNumbers.{none_kept, one_kept}
use Rattle.plan_zones.specs.Joint.{is_old_alone}
use Rattle.plan_zones.proofs.joint.old_alone.Goals as goal
use Rattle.plan_zones.proofs.joint.old_alone.Goals.{then-is_old_alone+in_ok-push, else-is_old_alone}

pub loop-place-preserved : goal.loop-place-preserved
loop-place-preserved c =
    let alone = is_old_alone c.args.old.now c.args.new.now c.args.renames.now in
    elim c.if-is_old_alone.branch [
      | then-is_old_alone+in_ok-push w ↦ w.places-is ∙ one_kept alone c.loop-place.place c.loop-place.places _ c.loop-place.invariant (sym c.is_old_alone.ensures ∙ w.if-is_old_alone.true) w.in_ok-push.ensures.ok
      | else-is_old_alone w ↦ w.places-is ∙ none_kept alone c.loop-place.place c.loop-place.places c.loop-place.invariant (sym c.is_old_alone.ensures ∙ w.if-is_old_alone.false)
    ]
