use Rattle.ordered_claims.specs.FirstHead.{IsFirstOf}
use Rattle.ordered_claims.proofs.heads.first_head.Given as goal

-- the first of the next claims so far
abbrev pub invariant-loop-index : goal.invariant-loop-index
invariant-loop-index l = IsFirstOf l.order l.files l.index l.first
