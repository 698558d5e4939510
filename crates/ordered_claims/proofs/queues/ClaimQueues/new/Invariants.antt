use Rattle.ordered_claims.proofs.Keeping.{AreEmpty}
use Rattle.ordered_claims.proofs.queues.ClaimQueues.new.Given as goal

-- the queues so far are empty
abbrev pub invariant-files : goal.invariant-files
invariant-files l = AreEmpty l.place l.files.items
