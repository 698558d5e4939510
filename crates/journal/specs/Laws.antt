-- The laws of journals and of the states of a gate.
use Rattle.std.specs.Prelude.{◌≡◌, ◌<◌, ◌⊎◌, ℕ, List, [], ◌∷◌, ◌++◌, length}
use Rattle.settlement.specs.declared.acc.Acc.{Acc}
use Rattle.settlement.specs.declared.claim.Claim.{Claim}
use Rattle.settlement.specs.declared.outcome.Outcome.{Outcome}
use Rattle.journal.specs.Terms.{Terms, IsProvider, claims_of, all_claims, at_most}
use Rattle.journal.specs.Events.{accepted_count, IsJob}
use Rattle.journal.specs.Lawful.{Lawful, Finished, Fits, closing}
use Rattle.journal.specs.Gate.{GateAt, LeadsTo, OfferReply, EndReply, TakeReply, FinishReply, Offers, Ends, Takes, MayFinish, Finishes, Stops}
use Rattle.journal.specs.declared.event.Event.{Event}

-- the empty journal, with the close if it is due at once, is lawful
abbrev pub EmptyJournalIsLawful : Type 0
EmptyJournalIsLawful = (T : Terms) → Lawful T (closing T [])

-- a lawful journal stays lawful when an event that fits is appended, followed by the close if it is
-- then due
abbrev pub FittingEventKeepsLawful : Type 0
FittingEventKeepsLawful = (T : Terms) (J : List Event) (event : Event) → Lawful T J → Fits T J event → Lawful T (closing T (J ++ event ∷ []))

-- a finished journal has accepted all claims, or as many as the cutoff if that is less
abbrev pub FinishedTakesAll : Type 0
FinishedTakesAll = (T : Terms) (J : List Event) → Finished T J → accepted_count J ≡ at_most T.cutoff (all_claims T)

-- a lawful journal that begins with a finished one is the same journal
abbrev pub FinishedIsFinal : Type 0
FinishedIsFinal = (T : Terms) (J rest : List Event) → Finished T J → Lawful T (J ++ rest) → rest ≡ []

-- the relation "leads to" is reflexive and transitive
abbrev pub LeadsToItself : Type 0
LeadsToItself = (g : GateAt) → LeadsTo g g

abbrev pub LeadsOn : Type 0
LeadsOn = (a b c : GateAt) → LeadsTo a b → LeadsTo b c → LeadsTo a c

-- if two states lead to a third one, one of the two leads to the other
abbrev pub LeadsEither : Type 0
LeadsEither = (a b c : GateAt) → LeadsTo a c → LeadsTo b c → LeadsTo a b ⊎ LeadsTo b a

-- the new state is lawful, and the old one leads to it
pub record Goes (old new : GateAt) : Type 0 where
  pub lawful : Lawful new.terms new.journal
  pub leads : LeadsTo old new

-- each call of the sequential gate, if its condition holds, changes a lawful state to a lawful one
-- to which the old one leads
abbrev pub OfferGoes : Type 0
OfferGoes = (old new : GateAt) (provider place : ℕ) (reply : OfferReply)
    → Lawful old.terms old.journal → place < length (claims_of old.terms provider) → Offers old provider place reply new → Goes old new

abbrev pub EndGoes : Type 0
EndGoes = (old new : GateAt) (provider : ℕ) (reply : EndReply)
    → Lawful old.terms old.journal → IsProvider old.terms provider → Ends old provider (length (claims_of old.terms provider)) reply new → Goes old new

abbrev pub TakeGoes : Type 0
TakeGoes = (old new : GateAt) (reply : TakeReply) → Lawful old.terms old.journal → Takes old reply new → Goes old new

abbrev pub FinishGoes : Type 0
FinishGoes = (old new : GateAt) (position : ℕ) (claim : Claim) (acc : Acc) (decision : Outcome) (reply : FinishReply)
    → Lawful old.terms old.journal → MayFinish old position claim acc decision → Finishes old position decision reply new → Goes old new

abbrev pub StopGoes : Type 0
StopGoes = (old new : GateAt) → Lawful old.terms old.journal → Stops old new → Goes old new

-- if a state leads to another one, a job of the first state is the same job in the second
abbrev pub JobsAreStable : Type 0
JobsAreStable = (old new : GateAt) (position : ℕ) (claim : Claim) (acc : Acc)
    → LeadsTo old new → IsJob old.terms old.journal position claim acc → IsJob new.terms new.journal position claim acc
