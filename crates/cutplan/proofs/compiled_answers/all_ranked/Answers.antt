use Rattle.std.proofs.Common.{◌≡◌, ◌+◌, ap, ◌∙◌, add-one, arith}
use Rattle.std.specs.List.{range_with_len}
use Rattle.cutplan.proofs.Steps.{pushed_more, range_more}
use Rattle.cutplan.proofs.compiled_answers.all_ranked.Goals as goal

pub loop-rule-preserved : goal.loop-rule-preserved
loop-rule-preserved c =
    let n = c.loop-rule.rule in
    let more = ap (range_with_len 0) (add-one n) ∙ range_more 0 n in
    let last : n ≡ 0 + n = omega arith in
    pushed_more _ _ _ _ _ _ c.in_ok-push.ensures.ok c.loop-rule.invariant last more
