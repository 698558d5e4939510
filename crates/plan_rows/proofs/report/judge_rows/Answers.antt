use Rattle.std.proofs.Common.{◌<◌, ◌+◌, ◌^◌, ◌++◌, ◌∷◌, [], arith}
use Rattle.std.proofs.lemmas.Grind.{common_steps}
use Rattle.plan_rows.proofs.Rows.{rows_more, rows_so_far}
use Rattle.plan_rows.proofs.report.judge_rows.Goals as goal

pub overflow_add-index : goal.overflow_add-index
overflow_add-index c = grind (arith, common_steps)

pub add-requires : goal.add-requires
add-requires c =
    let size = rows_so_far _ _ _ c.loop-index.index _ _ (omega (arith, c.loop-index-test.true)) c.loop-index.invariant.1 in
    let room : c.loop-index.index + 1 < 2 ^ 64 = grind (arith, common_steps) in
    record { judgements = c.loop-index.invariant.0; counted = c.loop-index.invariant.2; room = omega (arith, size, room) }

pub loop-index-preserved : goal.loop-index-preserved
loop-index-preserved c = (
  c.loop-index.invariant.0 ++ c.in_ok-judged.judged.judgement ∷ [],
  rows_more _ _ _ c.loop-index.index _ _ _ _ _ _ c.loop-index-test.true c.index-rows-index.is (rw c.as_slice.ensures.value at c.in_ok-extend_from_slice.ensures.items) c.loop-index.invariant.1 c.in_ok-judged.ensures,
  c.add.ensures c.loop-index.invariant.0 c.loop-index.invariant.2,
)

pub returns : goal.returns
returns c = grind (arith, common_steps)

pub judge_row-requires-clause-named : goal.judge_row-requires-clause-named
judge_row-requires-clause-named c = grind (arith, common_steps)

pub judge_row-requires-clause-needed : goal.judge_row-requires-clause-needed
judge_row-requires-clause-needed c = grind (arith, common_steps)

pub judge_row-requires-clause-apart : goal.judge_row-requires-clause-apart
judge_row-requires-clause-apart c = grind (arith, common_steps)
