use Rattle.std.proofs.Common.{◌≡◌, ◌<◌, ◌++◌, [], ◌∷◌, length, get_or, subst, ap, sym, ◌∙◌}
use Rattle.tables.specs.Matching.{cells_hold}
use Rattle.tables.proofs.Matches.{match_more, no_match_more}
use Rattle.explanation.proofs.matching.matching.Goals.{then-cells_hold+in_ok-push, else-cells_hold}
use Rattle.explanation.proofs.matching.matching.Goals as goal

pub loop-place-preserved : goal.loop-place-preserved
loop-place-preserved c =
    let given = c.args.given.now in
    let earlier = c.args.earlier.now in
    let t = c.args.table.now in
    let n = c.loop-place.place in
    let rule = c.rule-item.result in
    let listed = c.as_slice-rule-items.ensures in
    let below = subst (λ rules. n < length rules) listed c.loop-place-test.true in
    let present = c.rule-item.is ∙ ap (λ rules. get_or rules n rule) listed in
    let tested : c.cells_hold.result ≡ cells_hold given earlier t.inputs rule.cells =
    c.cells_hold.ensures ∙ ap (λ inputs. cells_hold given earlier inputs c.as_slice-in-loop-place.result.now) c.as_slice.ensures ∙ ap (λ cells. cells_hold given earlier t.inputs cells) c.as_slice-in-loop-place.ensures in
    elim c.if-cells_hold.branch [
      | then-cells_hold+in_ok-push w ↦
          w.found-is ∙ w.in_ok-push.ensures.ok ∙ ap (λ found. found ++ n ∷ []) c.loop-place.invariant ∙ sym (match_more given earlier t n rule below present (sym tested ∙ w.if-cells_hold.true))
      | else-cells_hold w ↦
          w.found-is ∙ c.loop-place.invariant ∙ sym (no_match_more given earlier t n rule below present (sym tested ∙ w.if-cells_hold.false))
    ]
