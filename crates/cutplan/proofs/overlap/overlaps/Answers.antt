use Rattle.std.proofs.Common.{◌+◌, ◌-◌, ◌++◌, ℕ, filter, ap, ◌∙◌}
use Rattle.cutplan.specs.Check.{pairs_with}
use Rattle.cutplan.specs.Masks.{has_rule}
use Rattle.cutplan.specs.CompiledColumns.{masks_kept}
use Rattle.cutplan.proofs.Partners.{pairs_kept}
use Rattle.cutplan.proofs.overlap.overlaps.Goals as goal

pub rules-preserved : goal.rules-preserved
rules-preserved c =
    let count = c.args.count in
    let first = c.rules.first in
    let others = c.partners-others.result in
    c.in_ok-push_pairs.ensures ∙ ap (λ front. front ++ filter (λ (pair : ℕ × ℕ). has_rule others (pair.1 - 1)) (pairs_with count (first + 1))) c.rules.invariant
    ∙ pairs_kept (masks_kept c.args.columns.now) count first others c.rules-test.true c.requires c.partners-others.ensures
