-- Each call of the sequential gate changes a lawful state to a lawful one to which the old one
-- leads.
use Rattle.std.proofs.Common.{◌≡◌, ℕ, zero, suc, ◌<◌, ◌≤◌, ◌+◌, Bool, true, false, not, ◌&&◌, ◌||◌, List, [], ◌∷◌, ◌++◌, length, refl, sym, ap, ◌∙◌, subst, inl, inr, arith, append_assoc, append-nil, take_all}
use Rattle.std.specs.List.{list_any}
use Rattle.std.proofs.lemmas.Bool.{cond-true, cond-false, cases_Bool, and_left, and_right, not_from_true}
use Rattle.settlement.specs.declared.acc.Acc.{Acc}
use Rattle.settlement.specs.declared.claim.Claim.{Claim}
use Rattle.settlement.specs.declared.outcome.Outcome.{Outcome}
use Rattle.journal.specs.Settled.{outcome_of}
use Rattle.settlement.specs.Accounts.{account_of}
use Rattle.journal.specs.Terms.{Terms, IsProvider, claims_of}
use Rattle.journal.specs.Events.{accepted_count, places, is_end, has_end, closed, is_close, IsJob, IsSettled, reached, all_ended, due}
use Rattle.journal.specs.Lawful.{Lawful, IsNextClaim, IsNextEnd, IsNextDecision, Fits, closing}
use Rattle.journal.specs.Gate.{GateAt, Continues, LeadsTo, OfferReply, EndReply, TakeReply, FinishReply, Offers, Ends, Takes, MayFinish, Finishes, Stops, Adds, AddsAndCloses}
use Rattle.journal.specs.Laws.{Goes}
use Rattle.journal.specs.declared.event.Event.{Event}
use Rattle.journal.specs.declared.event.Event.TheVariants.{Accept, End, Close, Take, Decide}
use Rattle.std.proofs.lemmas.List.Folds.{list_any-append}
use Rattle.journal.proofs.Appends.{accepted-append, claim_at-append, claim_at_within, before-append}
use Rattle.journal.proofs.LawfulMore.{lawful_more}
use Rattle.journal.specs.Leading.{leads_itself, running_leads}

-- nothing changes
stays : (old new : GateAt) → Lawful old.terms old.journal → new ≡ old → Goes old new
stays old new L same = subst (Goes old) (sym same) (record { lawful = L; leads = leads_itself old })

closing_continues : (T : Terms) (J : List Event) (event : Event) (b : Bool) → (due T (J ++ event ∷ []) && not (closed (J ++ event ∷ []))) ≡ b → Continues J (closing T (J ++ event ∷ []))
closing_continues T J event true h = record {
  rest = event ∷ Close ∷ [];
  whole =
      cond-true (due T (J ++ event ∷ []) && not (closed (J ++ event ∷ []))) (J ++ event ∷ [] ++ Close ∷ []) (J ++ event ∷ []) h
      ∙ append_assoc J (event ∷ []) (Close ∷ []);
}
closing_continues T J event false h = record {
  rest = event ∷ [];
  whole = cond-false (due T (J ++ event ∷ []) && not (closed (J ++ event ∷ []))) (J ++ event ∷ [] ++ Close ∷ []) (J ++ event ∷ []) h;
}

-- an event that fits is appended, and after it the close if it is due
adds_and_closes : (old new : GateAt) (event : Event) → Lawful old.terms old.journal → old.stopped ≡ false → Fits old.terms old.journal event → AddsAndCloses old event new → Goes old new
adds_and_closes old new event L runs fits is =
    let next : GateAt = record old { journal = closing old.terms (old.journal ++ event ∷ []) } in
    let on = closing_continues old.terms old.journal event (due old.terms (old.journal ++ event ∷ []) && not (closed (old.journal ++ event ∷ []))) refl in
    subst (Goes old) (sym is) (record {
      lawful = lawful_more old.terms old.journal event L fits;
      leads = running_leads old next runs refl on;
    })

-- an event that does not make the close due closes nothing
no_closing : (T : Terms) (J : List Event) (event : Event) → Lawful T J → due T (J ++ event ∷ []) ≡ due T J → closed (J ++ event ∷ []) ≡ closed J → closing T (J ++ event ∷ []) ≡ J ++ event ∷ []
no_closing T J event L same_due same_closed =
    cond-false (due T (J ++ event ∷ []) && not (closed (J ++ event ∷ []))) (J ++ event ∷ [] ++ Close ∷ []) (J ++ event ∷ [])
    (elim (cases_Bool (due T J)) [
      | inl is_due ↦
          let is_closed : closed J ≡ true = L.closed_when_due (length J) (ap (due T) (take_all (length J) J (omega arith)) ∙ is_due) in
          and_right (due T (J ++ event ∷ [])) (not (closed (J ++ event ∷ []))) (not_from_true (closed (J ++ event ∷ [])) (same_closed ∙ is_closed))
      | inr not_due ↦ and_left (due T (J ++ event ∷ [])) (not (closed (J ++ event ∷ []))) (same_due ∙ not_due)
    ])

or_none : (b : Bool) → (b || false) ≡ b
or_none true = refl
or_none false = refl

-- the event is not an accept, an end or a close
module _ (T : Terms) (J : List Event) (event : Event) (none : accepted_count (event ∷ []) ≡ 0) (no_end : (p : ℕ) → is_end p event ≡ false) (no_close : is_close event ≡ false) where
  same_test : (test : Event → Bool) → test event ≡ false → list_any test (J ++ event ∷ []) ≡ list_any test J
  same_test test fails =
      list_any-append test J (event ∷ [])
      ∙ ap (λ w. list_any test J || (w || false)) fails
      ∙ or_none (list_any test J)

  same_ends : (n : ℕ) → all_ended n (J ++ event ∷ []) ≡ all_ended n J
  same_ends zero = refl
  same_ends (suc n) =
      ap (λ w. w && all_ended n (J ++ event ∷ [])) (same_test (is_end (suc n)) (no_end (suc n)))
      ∙ ap (λ w. has_end J (suc n) && w) (same_ends n)

  same_accepted : accepted_count (J ++ event ∷ []) ≡ accepted_count J
  same_accepted =
      let both : accepted_count (J ++ event ∷ []) ≡ accepted_count J + accepted_count (event ∷ []) = accepted-append J (event ∷ []) in
      omega arith

  same_due : due T (J ++ event ∷ []) ≡ due T J
  same_due =
      ap (λ w. reached T.cutoff w || all_ended (length T.files) (J ++ event ∷ [])) same_accepted
      ∙ ap (λ w. reached T.cutoff (accepted_count J) || w) (same_ends (length T.files))

  quiet : Lawful T J → closing T (J ++ event ∷ []) ≡ J ++ event ∷ []
  quiet L = no_closing T J event L same_due (same_test is_close no_close)

-- an event that fits is appended, and the close does not follow it
adds : (old new : GateAt) (event : Event) → Lawful old.terms old.journal → old.stopped ≡ false → Fits old.terms old.journal event
    → closing old.terms (old.journal ++ event ∷ []) ≡ old.journal ++ event ∷ [] → Adds old event new → Goes old new
adds old new event L runs fits open_yet is =
    adds_and_closes old new event L runs fits (is ∙ ap (λ w. record old { journal = w }) (sym open_yet))

pub offer_goes : (old new : GateAt) (provider place : ℕ) (reply : OfferReply)
    → Lawful old.terms old.journal → place < length (claims_of old.terms provider) → Offers old provider place reply new → Goes old new
offer_goes old new provider place OfferReply.Stopped L there h = stays old new L h.1
offer_goes old new provider place OfferReply.Closed L there h = stays old new L h.2
offer_goes old new provider place (OfferReply.OutOfTurn expected) L there h = stays old new L h.3
offer_goes old new provider place (OfferReply.Accepted position) L there h =
    let fits : IsNextClaim old.terms old.journal provider place = record { open_yet = h.0.1; place_is = h.1; there = there } in
    adds_and_closes old new (Accept provider place) L h.0.0 fits h.3
offer_goes old new provider place OfferReply.NoMemory L there h = stays old new L h

pub end_goes : (old new : GateAt) (provider : ℕ) (reply : EndReply)
    → Lawful old.terms old.journal → IsProvider old.terms provider → Ends old provider (length (claims_of old.terms provider)) reply new → Goes old new
end_goes old new provider EndReply.Stopped L known h = stays old new L h.1
end_goes old new provider EndReply.Closed L known h = stays old new L h.2
end_goes old new provider (EndReply.OutOfTurn expected) L known h = stays old new L h.3
end_goes old new provider EndReply.AlreadyEnded L known h = stays old new L h.3
end_goes old new provider EndReply.Ended L known h =
    let within : length (places old.journal provider) ≤ length (claims_of old.terms provider) = L.sound.within provider in
    let all : length (claims_of old.terms provider) ≤ length (places old.journal provider) = h.1 in
    let whole : length (places old.journal provider) ≡ length (claims_of old.terms provider) = omega arith in
    let fits : IsNextEnd old.terms old.journal provider = record { open_yet = h.0.1; known = known; whole = whole; once = h.2 } in
    adds_and_closes old new (End provider) L h.0.0 fits h.3
end_goes old new provider EndReply.NoMemory L known h = stays old new L h

pub take_goes : (old new : GateAt) (reply : TakeReply) → Lawful old.terms old.journal → Takes old reply new → Goes old new
take_goes old new TakeReply.Stopped L h = stays old new L h.1
take_goes old new TakeReply.Over L h = stays old new L h.2
take_goes old new TakeReply.NothingReady L h = stays old new L h.3
take_goes old new (TakeReply.Work position claim acc) L h =
    adds old new (Take position) L h.0 h.2.ready (quiet old.terms old.journal (Take position) refl (λ p. refl) refl L) h.3
take_goes old new TakeReply.NoMemory L h = stays old new L h

pub finish_goes : (old new : GateAt) (position : ℕ) (claim : Claim) (acc : Acc) (decision : Outcome) (reply : FinishReply)
    → Lawful old.terms old.journal → MayFinish old position claim acc decision → Finishes old position decision reply new → Goes old new
finish_goes old new position claim acc decision FinishReply.Stopped L may h = stays old new L h.1
finish_goes old new position claim acc decision FinishReply.AlreadyDecided L may h = stays old new L h.2
finish_goes old new position claim acc decision FinishReply.Recorded L may h =
    let settled : IsSettled old.terms old.journal position decision =
    record { claim = claim; located = may.job.located; value = may.settled ∙ ap (outcome_of old.terms.plan claim) may.job.left } in
    let fits : IsNextDecision old.terms old.journal position decision = record { following = may.in_work; once = h.1; settled = settled } in
    adds old new (Decide position decision) L h.0 fits (quiet old.terms old.journal (Decide position decision) refl (λ p. refl) refl L) h.2
finish_goes old new position claim acc decision FinishReply.NoMemory L may h = stays old new L h

job_stays : (T : Terms) (J K : List Event) (position : ℕ) (claim : Claim) (acc : Acc) → IsJob T J position claim acc → IsJob T (J ++ K) position claim acc
job_stays T J K position claim acc job =
    let below : position < accepted_count J = claim_at_within T J position claim job.located in
    let within : position ≤ accepted_count J = omega arith in
    record {
      located = claim_at-append T J K position below ∙ job.located;
      left = job.left ∙ sym (before-append T J K position (account_of T.plan claim) within);
    }

pub jobs_are_stable : (old new : GateAt) (position : ℕ) (claim : Claim) (acc : Acc)
    → LeadsTo old new → IsJob old.terms old.journal position claim acc → IsJob new.terms new.journal position claim acc
jobs_are_stable old new position claim acc leads job =
    let longer : IsJob old.terms (old.journal ++ leads.journal.rest) position claim acc = job_stays old.terms old.journal leads.journal.rest position claim acc job in
    let same : IsJob old.terms new.journal position claim acc = subst (λ w. IsJob old.terms w position claim acc) (sym leads.journal.whole) longer in
    subst (λ w. IsJob w new.journal position claim acc) (sym leads.terms) same

pub stop_goes : (old new : GateAt) → Lawful old.terms old.journal → Stops old new → Goes old new
stop_goes old new L is =
    subst (Goes old) (sym is) (record {
      lawful = L;
      leads = record {
        terms = refl;
        journal = record { rest = []; whole = sym (append-nil old.journal) };
        stop = λ s. λ i. record { terms = old.terms; journal = old.journal; stopped = sym s i };
      };
    })
