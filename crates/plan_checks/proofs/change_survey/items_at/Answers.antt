use Rattle.std.proofs.Common.{◌++◌, ◌∷◌, [], ap, sym, ◌∙◌, arith}
use Rattle.std.proofs.lemmas.Grind.{common_steps}
use Rattle.plan_zones.proofs.JointLists.{chosen_more, skipped_more}
use Rattle.plan_checks.proofs.change_survey.items_at.Goals as goal
use Rattle.plan_checks.proofs.change_survey.items_at.Goals.{in-Some+in_ok-push, in_default}

pub loop-place-preserved : goal.loop-place-preserved
loop-place-preserved c =
    let places = c.args.places.now in
    let items = c.args.items.now in
    let i = c.loop-place.place-index in
    elim c.match-item_at.branch [
      | in-Some+in_ok-push w ↦
          w.found-is ∙ w.in_ok-push.ensures.ok ∙ ap (λ front. front ++ w.in-Some.item ∷ []) c.loop-place.invariant
          ∙ sym (chosen_more items places i _ w.in-Some.item c.loop-place-test.true w.in-Some.ensures)
      | in_default w ↦ w.found-is ∙ c.loop-place.invariant ∙ sym (skipped_more items places i _ c.loop-place-test.true w.in_default.ensures)
    ]

pub returns : goal.returns
returns c = grind (arith, common_steps)
