use Rattle.plan_rows.proofs.Claims.{AreFieldsSoFar}
use Rattle.plan_rows.proofs.filing.fields_at.Given as goal

-- the values so far
abbrev pub invariant-loop-index : goal.invariant-loop-index
invariant-loop-index l = AreFieldsSoFar l.given l.first l.index l.inputs l.fields
