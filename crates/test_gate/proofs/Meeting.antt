-- Callers whose passes have met.
use Rattle.std.proofs.Common.{◌≡◌, ap, inl, inr, ◌∙◌}
use Rattle.claim_gate.specs.Terms.{TermsParts}
use Rattle.claim_gate.specs.Parts.{GateParts}
use Rattle.claim_gate.specs.Shared.{HaveMet, Known}

-- after two passes have met, the pass has seen the terms that both had seen
pub met_terms : (first second both : Known) (parts : TermsParts) → HaveMet first second both → first.seen.terms ≡ parts → second.seen.terms ≡ parts → both.seen.terms ≡ parts
met_terms first second both parts met one other =
    elim met.later [
      | inl same ↦ ap (λ (g : GateParts). g.terms) same.0 ∙ one
      | inr same ↦ ap (λ (g : GateParts). g.terms) same.0 ∙ other
    ]
