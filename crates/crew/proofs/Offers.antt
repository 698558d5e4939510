-- The claims of all files, as the acceptor offers them.
use Rattle.std.proofs.Common.{inl, inr, ◌≡◌, ◌<◌, ◌≤◌, ◌+◌, ◌==◌, ℕ, cond, true, length, None, sym, ap, subst, ◌∙◌, arith}
use Rattle.std.proofs.lemmas.Bool.{cases_Bool, cases_lt, eqb-true, or_cases, or_left, or_right}
use Rattle.claim_gate.specs.Parts.{GateParts}
use Rattle.claim_gate.specs.Replies.{HasClaims, IsFiled}
use Rattle.claim_gate.specs.Shared.{IsDueAt}
use Rattle.claim_gate.specs.Terms.{ForTerms, TermsParts}
use Rattle.claim_gate.specs.declared.offer.Offer.{Offer}
use Rattle.journal.specs.Events.{closed, has_end, is_close, is_end, places}
use Rattle.journal.specs.Gate.{LeadsTo}
use Rattle.journal.specs.InOrder.{IsDue}
use Rattle.journal.specs.declared.order.Order.TheVariants.{Any}
use Rattle.ordered_claims.specs.OrderedParts.{AreJoined, BeginsUnder, GivesNext, IsNextOffer, OrderedParts, ReaderParts, count_of, given_of}
use Rattle.crew.specs.Accepting.{ArePast, HasOffered, HasOfferedAll, IsAcceptorStep, IsAtClaim, IsBetween}
use Rattle.crew.specs.declared.acceptor.AcceptorStep.{AcceptorStep}
use Rattle.crew.specs.declared.acceptor.AcceptorStep.TheVariants.{NextClaim, ReadOn, EndProviders, Leave}
use Rattle.gate_calls.specs.Sharing.{HasAccepted, is_past, is_shut}
use Rattle.gate_calls.proofs.HeldClaims.{any_goes_on}
use Rattle.gate_calls.proofs.Sections.{no_fewer}

-- where the terms ask for no order, each claim is due
pub due_in_any : (terms : TermsParts) (gate : GateParts) (provider place : ℕ) → gate.terms ≡ terms → terms.order ≡ Any → IsDueAt gate provider place
due_in_any terms gate provider place of_terms any asks = absurd (asks (ap (λ (t : TermsParts). t.order) of_terms ∙ any))

-- no claim is given by a new reader
pub first_claim : (terms : TermsParts) (seen : GateParts) (claims : OrderedParts) → seen.terms ≡ terms → BeginsUnder terms claims → IsAtClaim terms seen claims
first_claim terms seen claims of_terms begins = record {
  seen_terms = of_terms;
  of_terms = begins.terms_are;
  accepted = λ provider. omega (arith, begins.none provider);
}

-- the acceptor is between two claims where claims are given as before
pub same_given : (terms : TermsParts) (seen : GateParts) (old new : OrderedParts) → new.terms ≡ old.terms → new.given ≡ old.given → IsAtClaim terms seen old → IsAtClaim terms seen new
same_given terms seen old new same given h = record {
  seen_terms = h.seen_terms;
  of_terms = same ∙ h.of_terms;
  accepted = λ provider. subst (λ ns. count_of ns provider ≤ length (places seen.journal provider)) (sym given) (h.accepted provider);
}

-- the acceptor that was given no claim is where it was
pub stays_between : (terms : TermsParts) (seen : GateParts) (old new : OrderedParts) → new ≡ old → IsAtClaim terms seen old → IsBetween terms seen old new
stays_between terms seen old new same h = record { at = subst (λ claims. IsAtClaim terms seen claims) (sym same) h; read = ap (λ (claims : OrderedParts). claims.read) same }

-- the acceptor remains between two claims in a later state of the gate
pub still_at : (terms : TermsParts) (seen after : GateParts) (claims : OrderedParts) → LeadsTo seen after → IsAtClaim terms seen claims → IsAtClaim terms after claims
still_at terms seen after claims leads h = record {
  seen_terms = leads.terms ∙ h.seen_terms;
  of_terms = h.of_terms;
  accepted = λ provider. omega (arith, h.accepted provider, no_fewer seen.journal after.journal provider leads.journal);
}

-- the readers go on after the claims of the acceptor
pub joined_after : (terms : TermsParts) (seen : GateParts) (old rest : OrderedParts) (from read : ReaderParts) → AreJoined old from → read.terms ≡ from.terms → read.taken ≡ from.taken
    → old.terms ≡ terms → IsBetween terms seen old rest → AreJoined rest read
joined_after terms seen old rest from read joined same taken of_terms is = record {
  terms = same ∙ joined.terms ∙ of_terms ∙ sym is.at.of_terms;
  taken = taken ∙ joined.taken ∙ sym is.read;
}

-- a step after claims were offered is a step from before them
pub step_after : (terms : TermsParts) (seen : GateParts) (old between new : OrderedParts) (step : AcceptorStep) → between.read ≡ old.read → between.left ≤ old.left
    → IsAcceptorStep terms seen between new step → IsAcceptorStep terms seen old new step
step_after terms seen old between new NextClaim read fewer is = record { between = record { at = is.between.at; read = is.between.read ∙ read }; fewer = omega (arith, is.fewer, fewer) }
step_after terms seen old between new ReadOn read fewer is = record { at = is.at; read = is.read ∙ read }
step_after terms seen old between new EndProviders read fewer is = is
step_after terms seen old between new Leave read fewer is = is

-- after the last claim the acceptor has offered all claims
pub all_offered : (terms : TermsParts) (seen : GateParts) (old new : OrderedParts) → GivesNext old new None → IsAtClaim terms seen old → HasOfferedAll terms seen new
all_offered terms seen old new gives h = record {
  at = record {
    seen_terms = h.seen_terms;
    of_terms = gives.0 ∙ h.of_terms;
    accepted = λ provider. subst (λ n. n ≤ length (places seen.journal provider)) (sym (gives.1 provider)) (h.accepted provider);
  };
  whole = λ provider least most.
      let there = subst (λ (t : TermsParts). provider ≤ length t.files) (sym h.of_terms) most in
      subst (λ n. ForTerms terms (λ T. HasClaims T provider n)) (sym (gives.1 provider))
      (subst (λ t. ForTerms t (λ T. HasClaims T provider (given_of old provider))) h.of_terms (gives.2 provider least there));
}

module _ (terms : TermsParts) (seen : GateParts) (old new : OrderedParts) (offer : Offer) (gives : IsNextOffer old new offer) (h : IsAtClaim terms seen old) where
  -- the claim that the reader gives has what an offer of it requires
  pub offer_filed : ForTerms terms (λ T. IsFiled T offer)
  offer_filed = subst (λ t. ForTerms t (λ T. IsFiled T offer)) h.of_terms gives.filed

  pub offer_due : IsDueAt seen offer.provider offer.place
  offer_due asks =
      subst (λ (t : TermsParts). ForTerms t (λ T. IsDue t.order T seen.journal (record { provider = offer.provider; place = offer.place })))
      (h.of_terms ∙ sym h.seen_terms) (gives.due seen.journal h.accepted)

  pub offer_taken : HasAccepted seen offer.provider offer.place
  offer_taken = subst (λ n. n ≤ length (places seen.journal offer.provider)) (sym gives.place) (h.accepted offer.provider)

  -- once the claim is accepted, by this offer or another caller's, the acceptor is at the next one
  pub one_offered : new.read ≡ old.read → (after : GateParts) (next : ℕ) → LeadsTo seen after → (offer.place < next) × HasAccepted after offer.provider next
      → HasOffered terms after old new
  one_offered read after next leads reached = record {
    between = record {
      at = record {
        seen_terms = leads.terms ∙ h.seen_terms;
        of_terms = gives.terms ∙ h.of_terms;
        accepted = λ provider.
            let given = gives.given provider in
            elim (cases_Bool (offer.provider == provider)) [
              | inl same ↦
                  let own = eqb-true offer.provider provider same in
                  let more : given_of new provider ≡ given_of old provider + 1 = given ∙ ap (λ b. given_of old provider + cond b 1 0) same in
                  let place : given_of old provider ≡ offer.place = subst (λ p. given_of old p ≡ offer.place) own (sym gives.place) in
                  let within : next ≤ length (places after.journal provider) = subst (λ p. next ≤ length (places after.journal p)) own reached.1 in
                  omega (arith, more, place, reached.0, within)
              | inr other ↦
                  let same : given_of new provider ≡ given_of old provider + 0 = given ∙ ap (λ b. given_of old provider + cond b 1 0) other in
                  omega (arith, same, h.accepted provider, no_fewer seen.journal after.journal provider leads.journal)
            ];
      };
      read = read;
    };
    fewer = gives.fewer;
  }

-- a provider of which no more claims are accepted remains one
past_stays : (seen after : GateParts) (provider : ℕ) → LeadsTo seen after → is_past seen provider ≡ true → is_past after provider ≡ true
past_stays seen after provider leads past = elim (or_cases (is_shut seen) (has_end seen.journal provider) past) [
  | inl shut ↦ or_left (is_shut after) (has_end after.journal provider) (elim (or_cases seen.stopped (closed seen.journal) shut) [
    | inl stopped ↦ or_left after.stopped (closed after.journal) (ap (λ (g : GateParts). g.stopped) (leads.stop stopped) ∙ stopped)
    | inr is_closed ↦ or_right after.stopped (closed after.journal) (any_goes_on is_close seen.journal after.journal leads.journal is_closed)
  ])
  | inr ended ↦ or_right (is_shut after) (has_end after.journal provider) (any_goes_on (is_end provider) seen.journal after.journal leads.journal ended)
]

-- no more claims are accepted of one more provider
pub one_more_past : (seen after : GateParts) (place : ℕ) → LeadsTo seen after → ArePast seen place → is_past after (place + 1) ≡ true → ArePast after (place + 1)
one_more_past seen after place leads before here provider least most = elim (cases_lt place provider) [
  | inl last ↦
      let is : place + 1 ≡ provider = omega (arith, last, most) in
      subst (λ p. is_past after p ≡ true) is here
  | inr within ↦ past_stays seen after provider leads (before provider least within)
]
