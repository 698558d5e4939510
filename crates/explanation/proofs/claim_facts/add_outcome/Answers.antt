use Rattle.std.proofs.Common.{arith}
use Rattle.std.proofs.lemmas.Grind.{common_steps}
use Rattle.std.proofs.lemmas.Result.{on_ok_weaker}
use Rattle.explanation.proofs.Appending.{three}
use Rattle.explanation.proofs.claim_facts.add_outcome.Goals as goal

pub returns : goal.returns
returns c =
    let left = rw c.in-Some.is at c.after.ensures.sums in
    let computed = rw c.in_ok-given.ensures at c.in_ok-add_computation.ensures in
    let said = rw (c.as_slice.ensures.value, c.in_ok-verdict.ensures) at c.in_ok-add.ensures in
    let last = rw left.1 at c.add_accumulators.ensures in
    on_ok_weaker c.add_accumulators.result
    (λ more. three c.args.facts.now c.add_computation.new.facts c.add.new.self c.add_accumulators.new.facts _ _ _ computed said more) last

pub unreachable-unreachable : goal.unreachable-unreachable
unreachable-unreachable c = grind (arith, common_steps)
