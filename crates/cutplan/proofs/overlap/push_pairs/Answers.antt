use Rattle.std.proofs.Common.{◌≡◌, ℕ, ◌≤◌, ◌+◌, ◌-◌, ◌++◌, ◌∷◌, [], cond, filter, map, ap, sym, ◌∙◌, append_assoc, arith}
use Rattle.std.specs.List.{range_with_len}
use Rattle.cutplan.specs.Masks.{has_rule}
use Rattle.cutplan.proofs.Partners.{pair_at, pair_kept}
use Rattle.cutplan.proofs.overlap.push_pairs.Goals as goal

pub seconds-preserved : goal.seconds-preserved
seconds-preserved c =
    let first = c.args.first in
    let second = c.seconds.second in
    let others = c.args.others.now in
    let below : first + 1 ≤ second = omega arith in
    c.in_ok-push_pair.ensures ∙ ap (λ front. front ++ cond (has_rule others second) (pair_at (first + 1) (second + 1) ∷ []) []) c.seconds.invariant
    ∙ append_assoc c.args.found.now.items _ _ ∙ ap (λ last. c.args.found.now.items ++ last) (sym (pair_kept others first second below))

pub returns : goal.returns
returns c =
    let first = c.args.first in
    let others = c.args.others.now in
    let end : c.seconds.second ≡ c.args.count = omega arith in
    c.seconds.invariant
    ∙ ap (λ n. c.args.found.now.items ++ filter (λ (pair : ℕ × ℕ). has_rule others (pair.1 - 1)) (map {B = ℕ × ℕ} (λ s. (first + 1, s)) (range_with_len (first + 1 + 1) (n - (first + 1))))) end
