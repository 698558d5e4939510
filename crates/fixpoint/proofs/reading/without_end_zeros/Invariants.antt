use Rattle.std.proofs.Common.{◌≡◌, ◌≤◌, take, length}
use Rattle.fixpoint.specs.NumberText.{without_end_zeros}
use Rattle.fixpoint.proofs.reading.without_end_zeros.Given as goal

abbrev pub invariant-loop-len : goal.invariant-loop-len
invariant-loop-len l = (l.len ≤ length l.digits) × (without_end_zeros (take l.len l.digits) ≡ without_end_zeros l.digits)

abbrev pub decreases-loop-len : goal.decreases-loop-len
decreases-loop-len l = l.len
