-- The queue of a provider's file, with the claims that are read and not given yet.
use Rattle.std.specs.Prelude.{◌≡◌, ◌<◌, ◌≤◌, ◌+◌, ◌^◌, ◌⊎◌, ℕ, true, length, slice_get, Some}
use Rattle.settlement.specs.declared.claim.Claim.{Claim}
use Rattle.journal.specs.Terms.{Terms, claims_of}
use Rattle.claim_gate.specs.Terms.{TermsParts}
use Rattle.ordered_claims.specs.ReadAhead.{IsPiece, IsReaderAt, IsSound, records_in}
use Rattle.ordered_claims.specs.declared.file_queue.FileQueue.{FileQueue}
use Rattle.ordered_claims.specs.declared.file_reader.FileReader.{FileReader}

-- the number of claims of the file that were given or are in the queue
abbrev pub read_of : FileQueue → ℕ
read_of queue = queue.given + length queue.claims.items

-- the next claim of the file is in the queue, or no claim of the file is left
abbrev pub IsStocked : FileQueue → Type 0
IsStocked queue = (0 < length queue.claims.items) ⊎ (queue.is_last ≡ true)

-- the queue of a provider's file, of which the first claims are given and the next ones are queued
pub record IsQueueAt (T : Terms) (provider : ℕ) (queue : FileQueue) : Type 0 where
  pub claims : IsPiece (claims_of T provider) queue.given queue.claims.items
  pub last : queue.is_last ≡ true → length (claims_of T provider) ≤ read_of queue

-- the queue gives its first claim
pub record GivesClaim (old new : FileQueue) (claim : Claim) : Type 0 where
  pub own : slice_get old.claims.items 0 ≡ Some claim
  pub given : new.given ≡ old.given + 1
  pub fewer : length new.claims.items + 1 ≡ length old.claims.items
  pub at : (T : Terms) (provider : ℕ) → IsQueueAt T provider old → IsQueueAt T provider new

-- the claims that a reader has read ahead are in the queue or still with the reader, each of them once
pub record TakesAhead (old new : FileQueue) (from left : FileReader) : Type 0 where
  pub given : new.given ≡ old.given
  pub joined : left.taken ≡ read_of new
  pub as_many : length new.claims.items + records_in left ≡ length old.claims.items + records_in from
  pub fits : read_of new < 2 ^ 64
  pub sound : (terms : TermsParts) (provider : ℕ) → IsSound terms provider from → IsSound terms provider left
  pub at : (T : Terms) (provider : ℕ) → IsQueueAt T provider old → IsReaderAt T provider from → IsQueueAt T provider new
