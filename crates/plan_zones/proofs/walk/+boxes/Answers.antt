use Rattle.std.proofs.Common.{◌≡◌, ℕ, List, ◌++◌, ◌∷◌, [], length, ap, sym, subst, ◌∙◌, append_assoc, arith}
use Rattle.std.specs.List.{flat_map}
use Rattle.std.proofs.lemmas.Result.{IfOk-weaker}
use Rattle.plan_zones.specs.Boxes.{AreBoxesOf, AreGroupsOf, group_boxes}
use Rattle.plan_zones.proofs.Joining.{boxes_alike, boxes_grouped, grouped, groups_extended}
use Rattle.plan_zones.proofs.Lists.{extends_twice}
use Rattle.plan_zones.proofs.walk.+boxes.Goals as goal

pub loop-region-preserved : goal.loop-region-preserved
loop-region-preserved g t c =
    let has_outcome = g.S.Survey.has_outcome c.args.survey.now in
    let first = c.args.first.now in
    let more = c.in-Some.more.now in
    let region = c.loop-region.region in
    let boxes = c.in_ok-boxes-in-Some.boxes in
    let next = c.as_slice.result.now in
    let old = c.loop-region.outcomes in
    let new = c.boxes.new.outcomes in
    let kept = c.in_ok-boxes-in-Some.ensures.kept in
    let is : next ≡ first ++ region ∷ [] = c.as_slice.ensures ∙ c.in_ok-next-in-Some.ensures in
    let right =
    boxes_alike new (λ (zone : List ℕ). has_outcome (next ++ zone)) (λ (zone : List ℕ). has_outcome (first ++ region ∷ zone)) more boxes
    (λ zone outcome here. subst (λ (whole : List ℕ). has_outcome whole outcome) (ap (λ front. front ++ zone) is ∙ append_assoc first (region ∷ []) zone) here) c.in_ok-boxes-in-Some.ensures.boxes in
    let extended = groups_extended old new (λ region zone. has_outcome (first ++ region ∷ zone)) more region c.loop-region.groups.items kept c.loop-region.invariant.1 in (
      extends_twice c.args.outcomes.now old new c.loop-region.invariant.0 kept,
      grouped (λ region boxes. AreBoxesOf new (λ zone. has_outcome (first ++ region ∷ zone)) more boxes) region c.loop-region.groups.items boxes extended right _ c.in_ok-join-in-Some.ensures,
    )

pub returns-after-loop-region-clause-boxes : goal.returns-after-loop-region-clause-boxes
returns-after-loop-region-clause-boxes g t c =
    let has_outcome = g.S.Survey.has_outcome c.args.survey.now in
    let first = c.args.first.now in
    let choices = c.in-Some.choices.now in
    let more = c.in-Some.more.now in
    let groups = c.loop-region.groups.items in
    let outcomes = c.loop-region.outcomes in
    let last = c.loop-region-test.false in
    let within = c.loop-region.auto.region-end in
    let count = c.len-region-end.ensures in
    let end : c.loop-region.region ≡ length choices = omega (arith, last, within, count) in
    let all =
    subst (λ n. AreGroupsOf (λ region boxes. AreBoxesOf outcomes (λ zone. has_outcome (first ++ region ∷ zone)) more boxes) n groups) end c.loop-region.invariant.1 in
    let right =
    subst (λ rs. AreBoxesOf outcomes (λ (zone : List ℕ). has_outcome (first ++ zone)) rs (flat_map group_boxes groups)) (sym c.in-Some.ensures.cases.0)
    (boxes_grouped outcomes (λ (zone : List ℕ). has_outcome (first ++ zone)) choices more groups all) in
    IfOk-weaker c.boxes_of_groups.result (λ boxes. boxes ≡ flat_map group_boxes c.as_slice-in-Some.result.now)
    (λ boxes. AreBoxesOf outcomes (λ (zone : List ℕ). has_outcome (first ++ zone)) c.args.left.now boxes)
    (λ boxes made. subst (λ bs. AreBoxesOf outcomes (λ (zone : List ℕ). has_outcome (first ++ zone)) c.args.left.now bs) (sym (made ∙ ap (flat_map group_boxes) c.as_slice-in-Some.ensures.value)) right) c.boxes_of_groups.ensures
