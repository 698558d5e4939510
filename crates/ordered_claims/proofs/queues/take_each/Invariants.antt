use Rattle.std.proofs.Common.{◌≡◌, true}
use Rattle.ordered_claims.specs.Kept.{Moves}
use Rattle.ordered_claims.proofs.Moving.{StockedBelow}
use Rattle.ordered_claims.proofs.queues.take_each.Given as goal

-- the claims of the files so far have moved, and their queues are stocked where `all` says so
abbrev pub invariant-files : goal.invariant-files
invariant-files l =
    Moves l.terms l.initial.queues.items l.queues.items l.initial.readers.items l.readers.items × (l.all ≡ true → StockedBelow l.index l.queues.items)
