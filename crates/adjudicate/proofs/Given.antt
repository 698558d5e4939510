-- The reader of claims beside the gate that accepts them.
use Rattle.std.proofs.Common.{inl, inr, ◌≡◌, ◌≢◌, ℕ, zero, suc, ◌+◌, ◌≤◌, ◌==◌, true, false, cond, List, [], ◌∷◌, length, Option, None, refl, sym, ap, subst, ◌∙◌, arith, add-zero, eqb-true}
use Rattle.std.proofs.lemmas.Bool.{both_ways, cases_Bool, eq-eqb}
use Rattle.journal.specs.Events.{accepted_count, places, reached}
use Rattle.journal.specs.InOrder.{IsDue}
use Rattle.journal.specs.declared.event.Event.{Event}
use Rattle.journal.specs.declared.event.Event.TheVariants.{Close}
use Rattle.claim_gate.specs.Parts.{GateParts}
use Rattle.claim_gate.specs.Replies.{HasClaims, first_journal}
use Rattle.claim_gate.specs.Shared.{IsDueAt, IsLawful}
use Rattle.claim_gate.specs.Terms.{ForTerms, TermsParts}
use Rattle.claim_gate.specs.declared.offer.Offer.{Offer}
use Rattle.ordered_claims.specs.OrderedParts.{BeginsUnder, GivesNext, HasAcceptedGiven, IsNextOffer, OrderedParts, given_of}
use Rattle.adjudicate.specs.Settling.{AcceptsNone, AcceptsOne, AreAccepted, AreAllGiven, IsIdle}

-- a new journal accepts nothing
no_places : (cutoff : Option ℕ) (provider : ℕ) → length (places (first_journal cutoff) provider) ≡ 0
no_places cutoff provider = elim (reached cutoff 0) as (λ b. length (places (cond b (Close ∷ []) []) provider) ≡ 0) [ true ↦ refl | false ↦ refl ]

no_claims : (cutoff : Option ℕ) → accepted_count (first_journal cutoff) ≡ 0
no_claims cutoff = elim (reached cutoff 0) as (λ b. accepted_count (cond b (Close ∷ []) []) ≡ 0) [ true ↦ refl | false ↦ refl ]

-- a new gate is idle
pub idle_first : (terms : TermsParts) (gate : GateParts) → ¬ ForTerms terms (λ T. ⊥) → gate ≡ record { terms = terms; journal = first_journal terms.cutoff; stopped = false } → IsLawful gate → IsIdle gate
idle_first terms gate readable made lawful = record {
  at_work = record {
    readable = subst (λ parts. ¬ ForTerms parts (λ T. ⊥)) (sym (ap (λ (g : GateParts). g.terms) made)) readable;
    runs = ap (λ (g : GateParts). g.stopped) made;
    lawful = lawful;
  };
  decided = λ position below.
      let none : accepted_count gate.journal ≡ 0 = ap (λ (g : GateParts). accepted_count g.journal) made ∙ no_claims terms.cutoff in
      absurd (omega (arith, below, none));
}

-- a new reader has given the claims that a new gate has accepted
pub accepted_first : (terms : TermsParts) (gate : GateParts) (claims : OrderedParts) → gate ≡ record { terms = terms; journal = first_journal terms.cutoff; stopped = false }
    → BeginsUnder terms claims → AreAccepted claims gate.journal
accepted_first terms gate claims made begins provider least =
    ap (λ (g : GateParts). length (places g.journal provider)) made ∙ no_places terms.cutoff provider ∙ sym (begins.none provider)

-- the accepted claims are those that the reader has given, in its words
given_are_accepted : (claims : OrderedParts) (J : List Event) → AreAccepted claims J → HasAcceptedGiven claims J
given_are_accepted claims J accepted zero = omega arith
given_are_accepted claims J accepted (suc i) = omega (arith, accepted (suc i) (omega arith))

module _ (old new : OrderedParts) (offer : Offer) (next : IsNextOffer old new offer) (gate : GateParts) (same : old.terms ≡ gate.terms) (accepted : AreAccepted old gate.journal) where
  -- the offer is that of its provider's next claim
  pub next_place : offer.place ≡ length (places gate.journal offer.provider)
  next_place = next.place ∙ sym (accepted offer.provider next.provider.0)

  -- the offer is due
  pub next_due : IsDueAt gate offer.provider offer.place
  next_due asked = subst (λ terms. ForTerms terms (λ T. IsDue terms.order T gate.journal (record { provider = offer.provider; place = offer.place }))) same
      (next.due gate.journal (given_are_accepted old gate.journal accepted))

  -- after the acceptance of the offer, the accepted claims are again those that are given
  pub accepted_more : (after : GateParts) → AcceptsOne gate after offer.provider → AreAccepted new after.journal
  accepted_more after one provider least = elim (cases_Bool (offer.provider == provider)) [
    | inl is ↦
        let here : offer.provider ≡ provider = eqb-true offer.provider provider is in
        let more = ap (λ p. length (places after.journal p)) (sym here) ∙ one.one ∙ ap (λ p. length (places gate.journal p) + 1) here in
        more ∙ ap (λ n. n + 1) (accepted provider least) ∙ sym (next.given provider ∙ ap (λ b. given_of old provider + cond b 1 0) is)
    | inr other ↦
        let apart : provider ≢ offer.provider = λ e. both_ways (offer.provider == provider) other (eq-eqb offer.provider provider (sym e)) in
        one.others provider apart ∙ accepted provider least
        ∙ sym (next.given provider ∙ ap (λ b. given_of old provider + cond b 1 0) other ∙ add-zero (given_of old provider))
  ]

-- at the end the reader has given all claims
pub all_given : (old new : OrderedParts) → GivesNext old new None → AreAllGiven new
all_given old new gives provider least most =
    let within : provider ≤ length old.terms.files = subst (λ (t : TermsParts). provider ≤ length t.files) gives.0 most in
    let claims : ForTerms old.terms (λ T. HasClaims T provider (given_of old provider)) = gives.2 provider least within in
    let moved : ForTerms new.terms (λ T. HasClaims T provider (given_of old provider)) = subst (λ terms. ForTerms terms (λ T. HasClaims T provider (given_of old provider))) (sym gives.0) claims in
    subst (λ n. ForTerms new.terms (λ T. HasClaims T provider n)) (sym (gives.1 provider)) moved

pub accepted_at_end : (old new : OrderedParts) (J : List Event) → GivesNext old new None → AreAccepted old J → AreAccepted new J
accepted_at_end old new J gives accepted provider least = accepted provider least ∙ sym (gives.1 provider)

-- the accepted claims stay those that are given where no claim is accepted
pub accepted_still : (claims : OrderedParts) (old new : GateParts) → AcceptsNone old new → AreAccepted claims old.journal → AreAccepted claims new.journal
accepted_still claims old new none accepted provider least = none.places provider ∙ accepted provider least

-- the number of a provider's claims that are given is that of all its claims
pub end_claims : (claims : OrderedParts) (gate : GateParts) (provider count : ℕ) → claims.terms ≡ gate.terms → AreAllGiven claims → 1 ≤ provider → provider ≤ length claims.terms.files
    → count ≡ given_of claims provider → ForTerms gate.terms (λ T. HasClaims T provider count)
end_claims claims gate provider count same all least most counted =
    subst (λ n. ForTerms gate.terms (λ T. HasClaims T provider n)) (sym counted)
    (subst (λ terms. ForTerms terms (λ T. HasClaims T provider (given_of claims provider))) same (all provider least most))
