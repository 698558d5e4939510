-- A reader of the claims of all files in the order of the terms, as contracts see it, and the offers
-- that it gives.
use Rattle.std.specs.Prelude.{◌≡◌, ◌<◌, ◌≤◌, ◌+◌, ◌^◌, ◌==◌, ℕ, zero, suc, cond, List, get_or, length, Option, Some, None}
use Rattle.journal.specs.Events.{places}
use Rattle.journal.specs.InOrder.{IsDue}
use Rattle.journal.specs.declared.event.Event.{Event}
use Rattle.claim_gate.specs.Replies.{HasClaims, IsFiled}
use Rattle.claim_gate.specs.Terms.{ForTerms, TermsParts}
use Rattle.claim_gate.specs.declared.offer.Offer.{Offer}
use Rattle.ordered_claims.specs.declared.next_claim.NextClaim.{NextClaim}
use Rattle.ordered_claims.specs.declared.next_claim.NextClaim.TheVariants.{Given, Unread, NoneLeft}

-- the terms, the number of claims given of each provider, the number of those given or read to be
-- given next, and the number of records that are not read yet or whose claims are not given yet; where
-- others read, only the records whose claims are read count
pub record OrderedParts : Type 0 where
  pub terms : TermsParts
  pub given : List ℕ
  pub read : List ℕ
  pub left : ℕ

-- the readers of all files: the terms, the number of claims taken from the reader of each provider's
-- file, and the number of records that are not read yet or whose claims are not taken yet
pub record ReaderParts : Type 0 where
  pub terms : TermsParts
  pub taken : List ℕ
  pub left : ℕ

-- the readers go on after the claims that are given or read to be given next
pub record AreJoined (claims : OrderedParts) (readers : ReaderParts) : Type 0 where
  pub terms : readers.terms ≡ claims.terms
  pub taken : readers.taken ≡ claims.read

-- the number of a provider in a list of numbers by provider; providers count from 1
abbrev pub count_of : List ℕ → ℕ → ℕ
count_of counts zero = 0
count_of counts (suc i) = get_or counts i 0

-- the number of a provider's claims that the reader has given
abbrev pub given_of : OrderedParts → ℕ → ℕ
given_of parts provider = count_of parts.given provider

-- all claims that the reader has given are accepted in the journal
abbrev pub HasAcceptedGiven : OrderedParts → List Event → Type 0
HasAcceptedGiven parts J = (provider : ℕ) → given_of parts provider ≤ length (places J provider)

-- the reader has these terms and has given no claim
pub record BeginsUnder (terms : TermsParts) (parts : OrderedParts) : Type 0 where
  pub terms_are : parts.terms ≡ terms
  pub none : (provider : ℕ) → given_of parts provider ≡ 0

-- the reader gives this offer: the claim of the offer is its provider's next one, and once all claims
-- that the reader has given before are accepted, it is due in the order of the terms
pub record IsNextOffer (old new : OrderedParts) (offer : Offer) : Type 0 where
  pub provider : (1 ≤ offer.provider) × (offer.provider ≤ length old.terms.files)
  pub filed : ForTerms old.terms (λ T. IsFiled T offer)
  pub place : offer.place ≡ given_of old offer.provider
  pub room : offer.place + 1 < 2 ^ 64
  pub due : (J : List Event) → HasAcceptedGiven old J
      → ForTerms old.terms (λ T. IsDue old.terms.order T J (record { provider = offer.provider; place = offer.place }))
  pub terms : new.terms ≡ old.terms
  pub given : (provider : ℕ) → given_of new provider ≡ given_of old provider + cond (offer.provider == provider) 1 0
  pub fewer : new.left < old.left

-- what the reader gives: its next offer, or none once all claims of all files are given
abbrev pub GivesNext : OrderedParts → OrderedParts → Option Offer → Type 0
GivesNext old new None =
    (new.terms ≡ old.terms) × ((provider : ℕ) → given_of new provider ≡ given_of old provider)
    × ((provider : ℕ) → 1 ≤ provider → provider ≤ length old.terms.files → ForTerms old.terms (λ T. HasClaims T provider (given_of old provider)))
GivesNext old new (Some offer) = IsNextOffer old new offer

-- what is given of the claims that are read: the next offer, none because the next claim may not be
-- read yet, or none because all claims of all files are given
abbrev pub GivesRead : OrderedParts → OrderedParts → NextClaim → Type 0
GivesRead old new (Given offer) = IsNextOffer old new offer × (new.read ≡ old.read)
GivesRead old new Unread = new ≡ old
GivesRead old new NoneLeft = (new ≡ old) × GivesNext old new None

-- claims that the readers had read are taken from them, and none is given
pub record MovesRead (old new : OrderedParts) (from left : ReaderParts) : Type 0 where
  pub terms : new.terms ≡ old.terms
  pub given : new.given ≡ old.given
  pub joined : AreJoined new left
  pub as_many : new.left + left.left ≡ old.left + from.left
