-- A run of one thread: each claim is decided before the next one is offered.
use Rattle.std.specs.Prelude.{◌≡◌, ◌≢◌, ◌<◌, ◌≤◌, ◌+◌, ◌||◌, ℕ, Bool, true, false, List, length}
use Rattle.settlement.specs.Claim.{IsClaimOf}
use Rattle.journal.specs.Events.{IsJob, accepted_count, closed, has_decision, has_end, has_take, places}
use Rattle.journal.specs.declared.event.Event.{Event}
use Rattle.ordered_claims.specs.OrderedParts.{OrderedParts, given_of}
use Rattle.claim_gate.specs.Parts.{GateParts}
use Rattle.claim_gate.specs.Replies.{HasClaims}
use Rattle.claim_gate.specs.Shared.{IsLawful}
use Rattle.claim_gate.specs.Terms.{ForTerms}
use Rattle.claim_gate.specs.declared.job.Job.{Job}

-- the first claims of the journal, this number of them, are decided
abbrev pub AreDecided : List Event → ℕ → Type 0
AreDecided J count = (position : ℕ) → position < count → has_decision J position ≡ true

-- the gate is not stopped, its journal is lawful, and its terms have a reading
pub record IsAtWork (gate : GateParts) : Type 0 where
  pub readable : ¬ ForTerms gate.terms (λ T. ⊥)
  pub runs : gate.stopped ≡ false
  pub lawful : IsLawful gate

-- between two claims: each accepted claim is decided
pub record IsIdle (gate : GateParts) : Type 0 where
  pub at_work : IsAtWork gate
  pub decided : AreDecided gate.journal (accepted_count gate.journal)

-- the last accepted claim is not taken yet, and each earlier one is decided
pub record HasOffered (gate : GateParts) : Type 0 where
  pub at_work : IsAtWork gate
  pub position : ℕ
  pub counted : accepted_count gate.journal ≡ position + 1
  pub waits : has_take gate.journal position ≡ false
  pub decided : AreDecided gate.journal position

-- the job is that of the last accepted claim, which is taken and not decided yet, and each earlier one is decided
pub record HasTaken (gate : GateParts) (job : Job) : Type 0 where
  pub at_work : IsAtWork gate
  pub counted : accepted_count gate.journal ≡ job.position + 1
  pub in_work : has_take gate.journal job.position ≡ true
  pub undecided : has_decision gate.journal job.position ≡ false
  pub decided : AreDecided gate.journal job.position
  pub is_job : ForTerms gate.terms (λ T. IsJob T gate.journal job.position job.claim job.acc)
  pub fields : IsClaimOf gate.terms.plan job.claim

-- the terms are the same, and no claim is accepted
pub record AcceptsNone (old new : GateParts) : Type 0 where
  pub terms : new.terms ≡ old.terms
  pub places : (provider : ℕ) → length (places new.journal provider) ≡ length (places old.journal provider)

-- the terms are the same, and one claim of the provider is accepted
pub record AcceptsOne (old new : GateParts) (provider : ℕ) : Type 0 where
  pub terms : new.terms ≡ old.terms
  pub one : length (places new.journal provider) ≡ length (places old.journal provider) + 1
  pub others : (other : ℕ) → other ≢ provider → length (places new.journal other) ≡ length (places old.journal other)

-- an offer of the provider's next claim: it is accepted, or the journal is closed and nothing changes
abbrev pub OffersNext : GateParts → GateParts → ℕ → Bool → Type 0
OffersNext old new provider true = HasOffered new × AcceptsOne old new provider
OffersNext old new provider false = (closed old.journal ≡ true) × (new ≡ old)

-- an offer of the provider's next claim, which is then decided: it is accepted, or the journal is closed and nothing changes
abbrev pub SettlesNext : GateParts → GateParts → ℕ → Bool → Type 0
SettlesNext old new provider true = IsIdle new × AcceptsOne old new provider
SettlesNext old new provider false = (closed old.journal ≡ true) × (new ≡ old)

-- no more claims of the provider are accepted: the journal is closed, or the provider has ended
abbrev pub is_past : GateParts → ℕ → Bool
is_past gate provider = closed gate.journal || has_end gate.journal provider

-- the claims that the reader has given are the accepted ones
abbrev pub AreAccepted : OrderedParts → List Event → Type 0
AreAccepted claims J = (provider : ℕ) → 1 ≤ provider → length (places J provider) ≡ given_of claims provider

-- the reader has given all claims of each file
abbrev pub AreAllGiven : OrderedParts → Type 0
AreAllGiven claims =
    (provider : ℕ) → 1 ≤ provider → provider ≤ length claims.terms.files → ForTerms claims.terms (λ T. HasClaims T provider (given_of claims provider))
