-- Which of the files' next claims comes first in an order.
use Rattle.std.specs.Prelude.{◌≡◌, ◌<◌, ◌≤◌, ◌⊎◌, ℕ, Bool, false, ℤ, ◌<ℤ◌, int_lt, ⊤, List, slice_get, Option, Some, None}
use Rattle.settlement.specs.declared.claim.Claim.{Claim}
use Rattle.journal.specs.declared.order.Order.{Order}
use Rattle.journal.specs.declared.order.Order.TheVariants.{Any, Files, Service}
use Rattle.ordered_claims.specs.declared.heads.Head.{Head}
use Rattle.ordered_claims.specs.declared.file_queue.FileQueue.{FileQueue}

-- the claim of a later file comes before that of an earlier one, by their days of service
abbrev pub is_sooner : Order → ℤ → ℤ → Bool
is_sooner Any later earlier = false
is_sooner Files later earlier = false
is_sooner Service later earlier = int_lt later earlier

-- the queue of the file at this index has a first claim
pub record HasHead (files : List FileQueue) (index : ℕ) (claim : Claim) : Type 0 where
  pub file : FileQueue
  pub there : slice_get files index ≡ Some file
  pub next : slice_get file.claims.items 0 ≡ Some claim

-- of the claims of two files this one may come before the other
abbrev pub MayPrecede : Order → ℕ → ℤ → ℕ → ℤ → Type 0
MayPrecede Any index day other its_day = ⊤
MayPrecede Files index day other its_day = index ≤ other
MayPrecede Service index day other its_day = (day <ℤ its_day) ⊎ ((day ≡ its_day) × (index ≤ other))

-- of the next claims of the first n files this one comes first
pub record ComesFirst (order : Order) (files : List FileQueue) (n : ℕ) (head : Head) : Type 0 where
  pub within : head.index < n
  pub claim : Claim
  pub has : HasHead files head.index claim
  pub day : head.day ≡ claim.service
  pub first : (index : ℕ) (other : Claim) → index < n → HasHead files index other → MayPrecede order head.index head.day index other.service

-- the first of the next claims of the first n files, or none if none of these files has a claim left
abbrev pub IsFirstOf : Order → List FileQueue → ℕ → Option Head → Type 0
IsFirstOf order files n None = (index : ℕ) (claim : Claim) → index < n → ¬ HasHead files index claim
IsFirstOf order files n (Some head) = ComesFirst order files n head
