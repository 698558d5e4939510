-- A walk through the claims of all files in the order of acceptance, on which the claims of one family are settled.
use Rattle.std.specs.Prelude.{◌≡◌, ◌≤◌, ◌+◌, ℕ, true, false, List, [], drop, get_or, length, slice_get, Some, None}
use Rattle.std.specs.Str.{bytes_eq}
use Rattle.settlement.specs.Accounts.{family_of}
use Rattle.settlement.specs.Claim.{IsClaimOf}
use Rattle.settlement.specs.declared.claim.Claim.{Claim}
use Rattle.intake_csv.specs.Laws.{LieApart}
use Rattle.intake_csv.specs.Rows.{AreRowsLeft, AreRowsOf, RowsLeft}
use Rattle.intake_csv.specs.declared.rows.Row.{Row}
use Rattle.tables.specs.declared.table.InputData.{InputData}
use Rattle.journal.specs.Events.{Filed, accepted_count, accepts, claim_filed, closed, places}
use Rattle.journal.specs.InOrder.{AreFirstInOrder}
use Rattle.journal.specs.Terms.{at_most}
use Rattle.journal.specs.declared.event.Event.{Event}
use Rattle.claim_gate.specs.Terms.{ForTerms, TermsParts}
use Rattle.claim_gate.specs.declared.offer.Offer.{Offer}
use Rattle.ordered_claims.specs.OrderedParts.{GivesNext, IsNextOffer, OrderedParts, given_of}
use Rattle.explanation.specs.Cases.{IsNumberOf, IsWithin}
use Rattle.explanation.specs.Families.{Adds, AreLeft, left_after, opened, present_for}
use Rattle.explanation.specs.declared.family.LastClaim.{LastClaim}
use Rattle.explanation.specs.declared.row.Place.{Place}
use Rattle.explanation.specs.declared.search.Case.{Case}
use Rattle.explanation.specs.declared.search.Case.TheVariants.{Accepted, Late}
use Rattle.explanation.specs.declared.search.Reached.{Reached}
use Rattle.explanation.specs.declared.search.Step.{Step}
use Rattle.explanation.specs.declared.search.Step.TheVariants.{NoneLeft, Other, OfFamily}
use Rattle.explanation.specs.declared.search.Walk.{Walk}

-- the claim of an offer, by its provider and its place
abbrev pub filed_in : Offer → Filed
filed_in offer = record { provider = offer.provider; place = offer.place }

-- a claim of the terms cannot lack the plan's fields
abbrev pub ClaimsFit : TermsParts → Type 0
ClaimsFit parts = (filed : Filed) (claim : Claim) → ForTerms parts (λ T. claim_filed T filed ≡ Some claim) → ¬ ¬ IsClaimOf parts.plan claim

-- the claims that the reader has given are accepted in the order, at the positions before this one, and those of the family are settled as far
-- as the cutoff admits them
pub record AreSettled (parts : TermsParts) (family : List ℕ) (given : OrderedParts) (position : ℕ) (lasts : List LastClaim) : Type 0 where
  pub terms : given.terms ≡ parts
  pub journal : List Event
  pub open_yet : closed journal ≡ false
  pub as_many : (provider : ℕ) → length (places journal provider) ≡ given_of given provider
  pub counted : accepted_count journal ≡ position
  pub in_order : ForTerms parts (λ T. AreFirstInOrder parts.order T.files (accepts journal))
  pub left : ForTerms parts (λ T. AreLeft parts T (accepts journal) (at_most parts.cutoff position) family lasts)

-- the walk passes the offer
pub record Passes (old new : Walk) (offer : Offer) : Type 0 where
  pub next : IsNextOffer old.claims new.claims offer
  pub position : new.position ≡ old.position + 1

-- the claim is settled at this position, or it is late; its record has this place
abbrev pub IsSettledAs : TermsParts → ℕ → Place → Claim → List LastClaim → List LastClaim → Case → Type 0
IsSettledAs parts position place claim old new (Accepted at before) =
    (at ≡ position) × IsWithin parts.cutoff position × (before ≡ present_for parts.plan (opened parts) old claim)
    × Adds old new (left_after parts.plan (opened parts) old place claim)
IsSettledAs parts position place claim old new (Late cutoff) = (parts.cutoff ≡ Some cutoff) × (cutoff ≤ position) × (new ≡ old)

-- the walk passes a claim of the family
pub record Reaches (parts : TermsParts) (family : List ℕ) (old new : Walk) (reached : Reached) : Type 0 where
  pub passes : Passes old new reached.offer
  pub own : bytes_eq (family_of reached.offer.claim) family ≡ true
  pub number : ForTerms parts (λ T. IsNumberOf parts T (filed_in reached.offer) reached.number)
  pub settled : IsSettledAs parts old.position (record { provider = reached.offer.provider; number = reached.number }) reached.offer.claim old.lasts.items new.lasts.items
      reached.case

-- the walk passes a claim of another family
pub record PassesOther (family : List ℕ) (old new : Walk) : Type 0 where
  pub offer : Offer
  pub passes : Passes old new offer
  pub other : bytes_eq (family_of offer.claim) family ≡ false
  pub lasts : new.lasts.items ≡ old.lasts.items

-- the next step of the walk
abbrev pub IsStep : TermsParts → List ℕ → Walk → Walk → Step → Type 0
IsStep parts family old new NoneLeft = GivesNext old.claims new.claims None
IsStep parts family old new Other = PassesOther family old new
IsStep parts family old new (OfFamily reached) = Reaches parts family old new reached

-- the reader is past the first rows of the text, this number of them
pub record IsPast (names : List InputData) (text : List ℕ) (count : ℕ) (left : RowsLeft) : Type 0 where
  pub apart : LieApart left.layout.columns
  pub rest : (rows : List Row) → AreRowsOf names text rows → AreRowsLeft left (drop count rows)

-- the reader is at one of the text's rows
pub record IsReader (names : List InputData) (text : List ℕ) (left : RowsLeft) : Type 0 where
  pub count : ℕ
  pub number : left.number ≡ count + 1
  pub past : IsPast names text count left

-- each file has a reader at one of its rows
pub record AreReaders (parts : TermsParts) (readers : List RowsLeft) : Type 0 where
  pub as_many : length readers ≡ length parts.files
  pub each : (i : ℕ) (left : RowsLeft) → slice_get readers i ≡ Some left → IsReader parts.plan.names (get_or parts.files i []) left
