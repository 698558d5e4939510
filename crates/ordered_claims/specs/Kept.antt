-- What the queues and the readers of all files keep, whatever the lists of claims of the files are.
use Rattle.std.specs.Prelude.{◌≡◌, ◌<◌, ◌+◌, ◌^◌, ℕ, suc, Bool, true, false, List, length, map, slice_get, Some}
use Rattle.std.specs.List.{sum_by}
use Rattle.journal.specs.Events.{Filed}
use Rattle.journal.specs.InOrder.{AreFirstInOrder, filed_count}
use Rattle.journal.specs.Terms.{Terms}
use Rattle.journal.specs.declared.order.Order.{Order}
use Rattle.claim_gate.specs.Terms.{ForTerms, TermsParts}
use Rattle.ordered_claims.specs.OrderedParts.{count_of}
use Rattle.ordered_claims.specs.Queued.{IsQueueAt, IsStocked, read_of}
use Rattle.ordered_claims.specs.ReadAhead.{IsSound, records_in}
use Rattle.ordered_claims.specs.declared.file_queue.FileQueue.{FileQueue}
use Rattle.ordered_claims.specs.declared.file_reader.FileReader.{FileReader}

-- the number of claims given of each file
abbrev pub given_in : List FileQueue → List ℕ
given_in queues = map (λ q. q.given) queues

-- the number of claims of each file that were given or are in its queue
abbrev pub read_in : List FileQueue → List ℕ
read_in queues = map read_of queues

-- the number of claims taken from the reader of each file
abbrev pub taken_in : List FileReader → List ℕ
taken_in readers = map (λ r. r.taken) readers

-- the number of claims in all queues
abbrev pub queued_in : List FileQueue → ℕ
queued_in queues = sum_by (λ (q : FileQueue). length q.claims.items) queues

-- the number of records of all files that are not read yet or whose claims are not taken yet
abbrev pub records_left : List FileReader → ℕ
records_left readers = sum_by records_in readers

-- each queue is at its place in the claims of its file
abbrev pub AreQueuesAt : Terms → List FileQueue → Type 0
AreQueuesAt T queues = (i : ℕ) (queue : FileQueue) → slice_get queues i ≡ Some queue → IsQueueAt T (suc i) queue

-- the next claim of each file is in its queue, or no claim of the file is left
abbrev pub AreStocked : List FileQueue → Type 0
AreStocked queues = (i : ℕ) (queue : FileQueue) → slice_get queues i ≡ Some queue → IsStocked queue

-- the claims that are given are first claims in the order
pub record AreGiven (order : Order) (T : Terms) (queues : List FileQueue) : Type 0 where
  pub claims : List Filed
  pub in_order : AreFirstInOrder order T.files claims
  pub counted : (provider : ℕ) → filed_count provider claims ≡ count_of (given_in queues) provider
  pub at : AreQueuesAt T queues

-- what the queues keep
pub record IsQueued (terms : TermsParts) (queues : List FileQueue) (is_stocked : Bool) : Type 0 where
  pub as_many : length queues ≡ length terms.files
  pub fits : (i : ℕ) (queue : FileQueue) → slice_get queues i ≡ Some queue → read_of queue < 2 ^ 64
  pub stocked : is_stocked ≡ true → AreStocked queues
  pub given : ForTerms terms (λ T. AreGiven terms.order T queues)

-- what the readers keep
pub record IsReading (terms : TermsParts) (readers : List FileReader) : Type 0 where
  pub as_many : length readers ≡ length terms.files
  pub sound : (i : ℕ) (reader : FileReader) → slice_get readers i ≡ Some reader → reader.has_failed ≡ false → IsSound terms (suc i) reader

-- the claims that the readers had read ahead are in the queues or still with the readers
pub record Moves (terms : TermsParts) (old new : List FileQueue) (from left : List FileReader) : Type 0 where
  pub queued : IsQueued terms new false
  pub reading : IsReading terms left
  pub joined : taken_in left ≡ read_in new
  pub given : given_in new ≡ given_in old
  pub as_many : queued_in new + records_left left ≡ queued_in old + records_left from
