-- What a caller has seen after one section of the shared gate.
use Rattle.std.proofs.Common.{inl, inr, ◌≡◌, ◌<◌, ◌≤◌, ◌+◌, ℕ, suc, Bool, true, false, List, [], ◌∷◌, ◌++◌, length, Result, Err, refl, sym, ap, subst, ◌∙◌, arith, length-append}
use Rattle.std.proofs.lemmas.Bool.{cases_Bool, cases_lt, eq-eqb, false≢true, or_left, or_right}
use Rattle.std.proofs.lemmas.Grind.{flat_map-append}
use Rattle.claim_gate.specs.Terms.{TermsParts, IsTermsOf, ForTerms}
use Rattle.tables.specs.Plan.{IsPlan}
use Rattle.settlement.specs.Claim.{IsClaimOf}
use Rattle.settlement.specs.declared.outcome.Outcome.{Outcome}
use Rattle.intake_csv.specs.Laws.{ClaimsHaveFields}
use Rattle.journal.specs.Terms.{Terms}
use Rattle.journal.specs.Events.{closed, has_decision, has_end, is_decide, place_in, places, has_take}
use Rattle.journal.specs.Gate.{GateAt, Continues, OfferReply, Offers, EndReply, Ends, TakeReply, Takes, FinishReply, Finishes, Stops, LeadsTo}
use Rattle.journal.specs.Lawful.{Finished, closing}
use Rattle.journal.specs.declared.event.Event.{Event}
use Rattle.journal.specs.declared.event.Event.TheVariants.{Accept, End, Take, Decide}
use Rattle.journal.specs.Leading.{leads_further}
use Rattle.claim_gate.specs.Parts.{at}
use Rattle.claim_gate.specs.Shared.{Known, HadSection, Went}
use Rattle.claim_gate.specs.Replies.{end_reply, finish_refusal, finish_reply, offer_refusal, offer_reply}
use Rattle.claim_gate.specs.declared.fault.EndFault.{EndFault}
use Rattle.claim_gate.specs.declared.fault.EndFault.TheVariants as end
use Rattle.claim_gate.specs.declared.fault.FinishFault.{FinishFault}
use Rattle.claim_gate.specs.declared.fault.FinishFault.TheVariants as finish
use Rattle.claim_gate.specs.declared.fault.OfferFault.{OfferFault}
use Rattle.claim_gate.specs.declared.fault.OfferFault.TheVariants as offer
use Rattle.claim_gate.specs.declared.answer.Refused.{Refused}
use Rattle.claim_gate.specs.declared.job.DecidedJob.{DecidedJob}
use Rattle.claim_gate.specs.declared.job.Job.{Job}
use Rattle.claim_gate.specs.declared.offer.Offer.{Offer}
use Rattle.claim_gate.specs.declared.reply.Accepted.{Accepted}
use Rattle.claim_gate.specs.declared.reply.Ended.{Ended}
use Rattle.claim_gate.specs.declared.reply.Recorded.{Recorded}
use Rattle.gate_calls.specs.Sharing.{HasAccepted, IsInWork, is_past, is_shut}
use Rattle.gate_calls.proofs.Claims.{accepted-of, fields-decided}
use Rattle.gate_calls.proofs.Journals.{Report, any_now, closing_reports, ended_now, job_stays, now_taken, places_more}

-- the state that was seen before leads to the state that is seen now
pub led : (before after : Known) → HadSection before after → LeadsTo before.seen after.seen
led before after h = leads_further before.seen after.found after.seen h.fresh h.grown

-- in a continued journal a provider has no fewer accepted claims
pub no_fewer : (J K : List Event) (provider : ℕ) → Continues J K → length (places J provider) ≤ length (places K provider)
no_fewer J K provider on =
    let parts = ap (λ w. length (places w provider)) on.whole ∙ ap length (flat_map-append (place_in provider) J on.rest)
    ∙ length-append (places J provider) (places on.rest provider) in
    omega (arith, parts)

-- a refusal is that of the sequential gate for this fault
end_reported : (reply : Result Ended EndFault) (fault : EndFault) (expected : ℕ) → reply ≡ Err fault → fault ≡ end.OutOfTurn expected
    → end_reply reply ≡ EndReply.OutOfTurn expected
end_reported reply fault expected err is = ap end_reply err ∙ ap (λ f. end_reply (Err f)) is

offer_reported : (reply : Result Accepted (Refused OfferFault Offer)) (refused : Refused OfferFault Offer) (fault : OfferFault) → reply ≡ Err refused
    → refused.fault ≡ fault → offer_reply reply ≡ offer_refusal fault
offer_reported reply refused fault err is = ap offer_reply err ∙ ap offer_refusal is

finish_reported : (reply : Result Recorded (Refused FinishFault DecidedJob)) (refused : Refused FinishFault DecidedJob) (fault : FinishFault) → reply ≡ Err refused
    → refused.fault ≡ fault → finish_reply reply ≡ finish_refusal fault
finish_reported reply refused fault err is = ap finish_reply err ∙ ap finish_refusal is

module _ (parts : TermsParts) (there : ¬ ForTerms parts (λ T. ⊥)) where
  -- a test holds if it holds for each reading of the terms
  pub holds : (b : Bool) → ForTerms parts (λ T. b ≡ true) → b ≡ true
  holds b h = elim (cases_Bool b) [
    | inl is_true ↦ is_true
    | inr other ↦ absurd (there (λ T is. false≢true (sym other ∙ h T is)))
  ]

  -- a number is less than another one if it is less for each reading of the terms
  pub lies_below : (m n : ℕ) → ForTerms parts (λ T. m < n) → m < n
  lies_below m n h = elim (cases_lt m n) [
    | inl is_below ↦ is_below
    | inr other ↦ absurd (there (λ T is. omega (arith, other, h T is)))
  ]

  module _ (before after : Known) (of_terms : before.seen.terms ≡ parts) (h : HadSection before after) where
    -- the section had the effect of the call under the terms that the caller knows
    went : (Goes : GateAt → GateAt → Type 0) → Went Goes after → ForTerms parts (λ T. Goes (at T after.found) (at T after.seen))
    went Goes w T is = w T (subst (λ terms. IsTermsOf terms T) (sym (h.fresh.terms ∙ of_terms)) is)

    seen_terms : after.seen.terms ≡ parts
    seen_terms = h.grown.terms ∙ h.fresh.terms ∙ of_terms

    -- the caller has seen the gate stopped if the section found it stopped and changed nothing
    pub stopped_seen : Went (λ old new. (old.stopped ≡ true) × (new ≡ old)) after → after.seen.stopped ≡ true
    stopped_seen w = holds after.seen.stopped (λ T is.
        let r = went (λ old new. (old.stopped ≡ true) × (new ≡ old)) w T is in
        ap (λ (g : GateAt). g.stopped) r.1 ∙ r.0)

    -- the caller has seen the gate stopped if the section stopped it
    pub stops_seen : Went Stops after → after.seen.stopped ≡ true
    stops_seen w = holds after.seen.stopped (λ T is. ap (λ (g : GateAt). g.stopped) (went Stops w T is))

    pub stopped_shut : Went (λ old new. (old.stopped ≡ true) × (new ≡ old)) after → is_shut after.seen ≡ true
    stopped_shut w = or_left after.seen.stopped (closed after.seen.journal) (stopped_seen w)

    -- no more claims are accepted if the section found the gate closed
    pub closed_shut : Went (λ old new. (old.stopped ≡ false) × (closed old.journal ≡ true) × (new ≡ old)) after → is_shut after.seen ≡ true
    closed_shut w = holds (is_shut after.seen) (λ T is.
        let r = went (λ old new. (old.stopped ≡ false) × (closed old.journal ≡ true) × (new ≡ old)) w T is in
        or_right after.seen.stopped (closed after.seen.journal) (ap (λ (g : GateAt). closed g.journal) r.2 ∙ r.1))

    pub shut_past : (provider : ℕ) → is_shut after.seen ≡ true → is_past after.seen provider ≡ true
    shut_past provider shut = or_left (is_shut after.seen) (has_end after.seen.journal provider) shut

    ended_past : (provider : ℕ) → has_end after.seen.journal provider ≡ true → is_past after.seen provider ≡ true
    ended_past provider over = or_right (is_shut after.seen) (has_end after.seen.journal provider) over

    -- no more claims of a provider are accepted if it ends or has ended
    pub ends_past : (provider count : ℕ) → Went (λ old new. Ends old provider count EndReply.Ended new) after → is_past after.seen provider ≡ true
    ends_past provider count w = holds (is_past after.seen provider) (λ T is.
        let r = went (λ old new. Ends old provider count EndReply.Ended new) w T is in
        let J = after.found.journal ++ End provider ∷ [] in
        let journal : after.seen.journal ≡ closing T J = ap (λ (g : GateAt). g.journal) r.3 in
        let t : Report J after.seen.journal = rw journal (closing_reports T J) in
        ended_past provider (t.ended provider ∙ ended_now after.found.journal provider))

    pub already_past : (provider count : ℕ) → Went (λ old new. Ends old provider count EndReply.AlreadyEnded new) after → is_past after.seen provider ≡ true
    already_past provider count w = holds (is_past after.seen provider) (λ T is.
        let r = went (λ old new. Ends old provider count EndReply.AlreadyEnded new) w T is in
        ended_past provider (ap (λ (g : GateAt). has_end g.journal provider) r.3 ∙ r.2))

    -- an end is not out of turn if all `count` claims of the provider are accepted
    pub none_lacks : (provider count expected : ℕ) (reply : Result Ended EndFault) (fault : EndFault) → reply ≡ Err fault → fault ≡ end.OutOfTurn expected
        → HasAccepted before.seen provider count → ¬ Went (λ old new. Ends old provider count (end_reply reply) new) after
    none_lacks provider count expected reply fault err is_fault has w = there (λ T is.
        let r : Ends (at T after.found) provider count (EndReply.OutOfTurn expected) (at T after.seen) =
        subst (λ r. Ends (at T after.found) provider count r (at T after.seen)) (end_reported reply fault expected err is_fault)
        (went (λ old new. Ends old provider count (end_reply reply) new) w T is) in
        omega (arith, r.1, r.2, has, no_fewer before.seen.journal after.found.journal provider h.fresh.journal))

    -- an accepted claim is one more accepted claim of its provider
    pub accepts_on : (provider place position : ℕ) → Went (λ old new. Offers old provider place (OfferReply.Accepted position) new) after
        → (place < place + 1) × HasAccepted after.seen provider (place + 1)
    accepts_on provider place position w =
        let more = lies_below place (length (places after.seen.journal provider)) (λ T is.
        let r = went (λ old new. Offers old provider place (OfferReply.Accepted position) new) w T is in
        let J = after.found.journal ++ Accept provider place ∷ [] in
        let journal : after.seen.journal ≡ closing T J = ap (λ (g : GateAt). g.journal) r.3 in
        let t : Report J after.seen.journal = rw journal (closing_reports T J) in
        omega (arith, r.1, ap length (t.places provider), places_more after.found.journal provider place)) in
        (omega arith, omega (arith, more))

    -- if another claim is the provider's next one, it is a later one
    pub goes_on : (provider place expected : ℕ) (reply : Result Accepted (Refused OfferFault Offer)) (refused : Refused OfferFault Offer) → reply ≡ Err refused
        → refused.fault ≡ offer.OutOfTurn expected → HasAccepted before.seen provider place → Went (λ old new. Offers old provider place (offer_reply reply) new) after
        → (place < expected) × HasAccepted after.seen provider expected
    goes_on provider place expected reply refused err is_fault has w =
        let all : ForTerms parts (λ T. Offers (at T after.found) provider place (OfferReply.OutOfTurn expected) (at T after.seen)) = λ T is.
        subst (λ r. Offers (at T after.found) provider place r (at T after.seen)) (offer_reported reply refused (offer.OutOfTurn expected) err is_fault)
        (went (λ old new. Offers old provider place (offer_reply reply) new) w T is) in
        let later = lies_below place expected (λ T is.
        let r = all T is in
        omega (arith, r.1, r.2, has, no_fewer before.seen.journal after.found.journal provider h.fresh.journal)) in
        let within = lies_below expected (suc (length (places after.seen.journal provider))) (λ T is.
        let r = all T is in
        omega (arith, r.1, ap (λ (g : GateAt). length (places g.journal provider)) r.3)) in
        (later, omega (arith, within))

    -- no more claims are accepted if the offer is refused because the gate is closed or stopped
    pub closed_to : (provider place : ℕ) (reply : Result Accepted (Refused OfferFault Offer)) (refused : Refused OfferFault Offer) → reply ≡ Err refused
        → refused.fault ≡ offer.Closed → Went (λ old new. Offers old provider place (offer_reply reply) new) after → is_shut after.seen ≡ true
    closed_to provider place reply refused err is_fault w = closed_shut (λ T is.
        subst (λ r. Offers (at T after.found) provider place r (at T after.seen)) (offer_reported reply refused offer.Closed err is_fault) (w T is))

    pub stopped_to : (provider place : ℕ) (reply : Result Accepted (Refused OfferFault Offer)) (refused : Refused OfferFault Offer) → reply ≡ Err refused
        → refused.fault ≡ offer.Stopped → Went (λ old new. Offers old provider place (offer_reply reply) new) after → is_shut after.seen ≡ true
    stopped_to provider place reply refused err is_fault w = stopped_shut (λ T is.
        subst (λ r. Offers (at T after.found) provider place r (at T after.seen)) (offer_reported reply refused offer.Stopped err is_fault) (w T is))

    -- the caller has seen a finished journal if `take` returns `Over`
    pub over_seen : Went (λ old new. Takes old TakeReply.Over new) after → ForTerms after.seen.terms (λ T. Finished T after.seen.journal)
    over_seen w T is =
        let r = went (λ old new. Takes old TakeReply.Over new) w T (subst (λ terms. IsTermsOf terms T) seen_terms is) in
        subst (λ J. Finished T J) (sym (ap (λ (g : GateAt). g.journal) r.2)) r.1

    -- a claim that is taken is in work
    pub work_seen : ClaimsHaveFields → IsPlan parts.plan → (job : Job)
        → Went (λ old new. Takes old (TakeReply.Work job.position job.claim job.acc) new) after → IsInWork after.seen job
    work_seen law sound job w =
        let all = went (λ old new. Takes old (TakeReply.Work job.position job.claim job.acc) new) w in
        let journal : (T : Terms) → IsTermsOf parts T → after.seen.journal ≡ after.found.journal ++ Take job.position ∷ [] =
        λ T is. ap (λ (g : GateAt). g.journal) (all T is).3 in
        record {
          in_work = holds (has_take after.seen.journal job.position) (λ T is. rw (journal T is) (now_taken after.found.journal job.position));
          is_job = λ T is.
              let known = subst (λ terms. IsTermsOf terms T) seen_terms is in
              rw (journal T known) (job_stays T after.found.journal job.position job.claim job.acc (all T known).2.job);
          fields = subst (λ terms. IsClaimOf terms.plan job.claim) (sym seen_terms) (fields-decided parts.plan job.claim sound (λ other. there (λ T is.
              other (accepted-of law parts T after.found.journal job.position job.claim sound is (all T is).2.job.located))));
        }

    -- the caller has seen the decision if it is recorded or was recorded before
    pub recorded_seen : (position : ℕ) (o : Outcome) → Went (λ old new. Finishes old position o FinishReply.Recorded new) after
        → has_decision after.seen.journal position ≡ true
    recorded_seen position o w = holds (has_decision after.seen.journal position) (λ T is.
        let r = went (λ old new. Finishes old position o FinishReply.Recorded new) w T is in
        let journal : after.seen.journal ≡ after.found.journal ++ Decide position o ∷ [] = ap (λ (g : GateAt). g.journal) r.2 in
        rw journal (any_now (is_decide position) after.found.journal (Decide position o) (eq-eqb position position refl)))

    pub already_seen : (position : ℕ) (o : Outcome) (reply : Result Recorded (Refused FinishFault DecidedJob)) (refused : Refused FinishFault DecidedJob)
        → reply ≡ Err refused → refused.fault ≡ finish.AlreadyDecided → Went (λ old new. Finishes old position o (finish_reply reply) new) after
        → has_decision after.seen.journal position ≡ true
    already_seen position o reply refused err is_fault w = holds (has_decision after.seen.journal position) (λ T is.
        let r : Finishes (at T after.found) position o FinishReply.AlreadyDecided (at T after.seen) =
        subst (λ r. Finishes (at T after.found) position o r (at T after.seen)) (finish_reported reply refused finish.AlreadyDecided err is_fault)
        (went (λ old new. Finishes old position o (finish_reply reply) new) w T is) in
        ap (λ (g : GateAt). has_decision g.journal position) r.2 ∙ r.1)

    -- the caller has seen the gate stopped if the decision is refused for this reason
    pub refused_seen : (position : ℕ) (o : Outcome) (reply : Result Recorded (Refused FinishFault DecidedJob)) (refused : Refused FinishFault DecidedJob)
        → reply ≡ Err refused → refused.fault ≡ finish.Stopped → Went (λ old new. Finishes old position o (finish_reply reply) new) after
        → after.seen.stopped ≡ true
    refused_seen position o reply refused err is_fault w = stopped_seen (λ T is.
        subst (λ r. Finishes (at T after.found) position o r (at T after.seen)) (finish_reported reply refused finish.Stopped err is_fault) (w T is))
