use Rattle.plan_commands.proofs.Unions.{same_twice}
use Rattle.plan_commands.proofs.zone_sets.join_sets.Goals as goal

pub returns-then-len-before : goal.returns-then-len-before
returns-then-len-before c = same_twice _ _ _ c.loop.invariant (rw c.as_slice.ensures.value at c.in_ok-joined.ensures)

pub loop-preserved : goal.loop-preserved
loop-preserved c = same_twice _ _ _ c.loop.invariant (rw c.as_slice.ensures.value at c.in_ok-joined.ensures)
