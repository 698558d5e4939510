-- Offers where claims are accepted in any order.
use Rattle.std.proofs.Common.{◌≡◌, ◌∙◌, ℕ, ap}
use Rattle.claim_gate.specs.Terms.{TermsParts}
use Rattle.claim_gate.specs.Parts.{GateParts}
use Rattle.claim_gate.specs.Shared.{IsDueAt}
use Rattle.test_gate.specs.Words.{IsAnyOrder}

-- each claim may be offered
pub any_order : (gate : GateParts) (terms : TermsParts) (provider place : ℕ) → gate.terms ≡ terms → IsAnyOrder terms → IsDueAt gate provider place
any_order gate terms provider place same any ordered = absurd (ordered (ap (λ (t : TermsParts). t.order) same ∙ any))
