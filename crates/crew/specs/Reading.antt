-- What an intake has read of its provider's file.
use Rattle.std.specs.Prelude.{◌≡◌, ◌<◌, ◌≤◌, ◌+◌, ◌^◌, ◌++◌, ℕ, List, [], length, true}
use Rattle.settlement.specs.declared.claim.Claim.{Claim}
use Rattle.intake_csv.specs.Rows.{AreRowsLeft, RowsLeft, claims_among}
use Rattle.intake_csv.specs.declared.rows.Row.{Row}
use Rattle.claim_gate.specs.Parts.{GateParts}
use Rattle.claim_gate.specs.Replies.{IsFiled}
use Rattle.claim_gate.specs.Terms.{ForTerms, TermsParts}
use Rattle.claim_gate.specs.declared.offer.Offer.{Offer}
use Rattle.journal.specs.Terms.{Terms, claims_of}
use Rattle.gate_calls.specs.Sharing.{HasAccepted, is_shut}
use Rattle.crew.specs.declared.intake.Intake.{Intake}
use Rattle.crew.specs.declared.intake.Record.{Record}
use Rattle.crew.specs.declared.intake.Record.TheVariants as found
use Rattle.crew.specs.declared.intake.Step.{Step}
use Rattle.crew.specs.declared.intake.Step.TheVariants.{NextRecord, EndProvider, Leave}

-- after this number of claims of a provider, the remaining ones are those among the rows that the reader has left
pub record AreLeft (T : Terms) (provider count : ℕ) (left : RowsLeft) : Type 0 where
  pub front : List Claim
  pub rows : List Row
  pub are_rows : AreRowsLeft left rows
  pub whole : claims_of T provider ≡ front ++ claims_among rows
  pub counted : length front ≡ count

-- the intake is between two records: it has read `count` claims, and all claims before the place that it expects are accepted
pub record IsAtRecord (terms : TermsParts) (seen : GateParts) (intake : Intake) : Type 0 where
  pub of_terms : seen.terms ≡ terms
  pub claims : ForTerms terms (λ T. AreLeft T intake.provider intake.count intake.rows)
  pub has_taken : HasAccepted seen intake.provider intake.expected
  pub reached : intake.count ≤ intake.expected
  pub place : intake.rows.place ≡ intake.count
  pub fewer : intake.rows.place < intake.rows.number

-- the intake is between two records, with fewer of them left than before
pub record HasRead (terms : TermsParts) (seen : GateParts) (old new : Intake) : Type 0 where
  pub at : IsAtRecord terms seen new
  pub same : new.provider ≡ old.provider
  pub fewer : length new.rows.records < length old.rows.records

-- the intake is after the last record
pub record HasReadAll (terms : TermsParts) (seen : GateParts) (old new : Intake) : Type 0 where
  pub at : IsAtRecord terms seen new
  pub same : new.provider ≡ old.provider
  pub none : new.rows.records ≡ []

-- the intake has read the claim of this offer, before which all claims of its provider are accepted; once all claims before a
-- later place are, it is between two records
pub record IsToOffer (terms : TermsParts) (seen : GateParts) (old new : Intake) (offer : Offer) : Type 0 where
  pub same : new.provider ≡ old.provider
  pub own : offer.provider ≡ old.provider
  pub filed : ForTerms terms (λ T. IsFiled T offer)
  pub taken : HasAccepted seen offer.provider offer.place
  pub room : offer.place + 1 < 2 ^ 64
  pub after : (later : GateParts) (next : ℕ) → later.terms ≡ terms → offer.place < next → HasAccepted later offer.provider next → IsAtRecord terms later (record new { expected = next })
  pub fewer : length new.rows.records < length old.rows.records

-- what the intake has read, whatever it knows of the gate
abbrev pub Reads : Intake → Intake → Record → Type 0
Reads old new (found.Claim offer) = (terms : TermsParts) (seen : GateParts) → IsAtRecord terms seen old → IsToOffer terms seen old new offer
Reads old new found.Skipped = (terms : TermsParts) (seen : GateParts) → IsAtRecord terms seen old → HasRead terms seen old new
Reads old new found.Missing = (terms : TermsParts) (seen : GateParts) → IsAtRecord terms seen old → HasReadAll terms seen old new

-- the next step of an intake is right: it ends the provider only after the last record, and it leaves only a gate that
-- accepts no more claims
abbrev pub IsStep : TermsParts → GateParts → Intake → Intake → Step → Type 0
IsStep terms seen old new NextRecord = HasRead terms seen old new
IsStep terms seen old new EndProvider = HasReadAll terms seen old new
IsStep terms seen old new Leave = is_shut seen ≡ true
