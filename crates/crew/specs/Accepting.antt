-- What the acceptor has offered of the claims of all files.
use Rattle.std.specs.Prelude.{◌≡◌, ◌<◌, ◌≤◌, ℕ, length, true}
use Rattle.claim_gate.specs.Parts.{GateParts}
use Rattle.claim_gate.specs.Replies.{HasClaims}
use Rattle.claim_gate.specs.Terms.{ForTerms, TermsParts}
use Rattle.ordered_claims.specs.OrderedParts.{HasAcceptedGiven, OrderedParts, given_of}
use Rattle.gate_calls.specs.Sharing.{is_past, is_shut}
use Rattle.crew.specs.declared.acceptor.AcceptorStep.{AcceptorStep}
use Rattle.crew.specs.declared.acceptor.AcceptorStep.TheVariants.{NextClaim, ReadOn, EndProviders, Leave}
use Rattle.crew.specs.declared.acceptor.Offered.{Offered}
use Rattle.crew.specs.declared.acceptor.Offered.TheVariants.{Part, Whole, Shut}

-- no more claims are accepted of the providers up to this one
abbrev pub ArePast : GateParts → ℕ → Type 0
ArePast gate last = (provider : ℕ) → 1 ≤ provider → provider ≤ last → is_past gate provider ≡ true

-- the acceptor is between two claims: all claims that it was given are accepted
pub record IsAtClaim (terms : TermsParts) (seen : GateParts) (claims : OrderedParts) : Type 0 where
  pub seen_terms : seen.terms ≡ terms
  pub of_terms : claims.terms ≡ terms
  pub accepted : HasAcceptedGiven claims seen.journal

-- the acceptor is between two claims, and no more claims are read
pub record IsBetween (terms : TermsParts) (seen : GateParts) (old new : OrderedParts) : Type 0 where
  pub at : IsAtClaim terms seen new
  pub read : new.read ≡ old.read

-- the acceptor is between two claims, with fewer claims left than before
pub record HasOffered (terms : TermsParts) (seen : GateParts) (old new : OrderedParts) : Type 0 where
  pub between : IsBetween terms seen old new
  pub fewer : new.left < old.left

-- the acceptor is after the last claim of all files
pub record HasOfferedAll (terms : TermsParts) (seen : GateParts) (claims : OrderedParts) : Type 0 where
  pub at : IsAtClaim terms seen claims
  pub whole : (provider : ℕ) → 1 ≤ provider → provider ≤ length terms.files → ForTerms terms (λ T. HasClaims T provider (given_of claims provider))

-- the next step of the acceptor is right: it ends the providers only after the last claim, and it leaves only a gate that
-- accepts no more claims
abbrev pub IsAcceptorStep : TermsParts → GateParts → OrderedParts → OrderedParts → AcceptorStep → Type 0
IsAcceptorStep terms seen old new NextClaim = HasOffered terms seen old new
IsAcceptorStep terms seen old new ReadOn = IsBetween terms seen old new
IsAcceptorStep terms seen old new EndProviders = HasOfferedAll terms seen new
IsAcceptorStep terms seen old new Leave = is_shut seen ≡ true

-- what the acceptor has offered is right: all claims of all files only after the last one, and it stops only where more
-- claims have to be read, or where the gate accepts no more claims
abbrev pub AreOffered : TermsParts → GateParts → OrderedParts → Offered → Type 0
AreOffered terms seen old (Part rest) = IsBetween terms seen old rest
AreOffered terms seen old (Whole rest) = HasOfferedAll terms seen rest
AreOffered terms seen old Shut = is_shut seen ≡ true
