-- The steps of a run of one thread: what each call of the gate leaves.
use Rattle.std.proofs.Common.{inl, inr, ◌≡◌, ◌≢◌, ℕ, zero, suc, ◌+◌, ◌<◌, ◌≤◌, ◌&&◌, true, false, List, [], ◌∷◌, ◌++◌, length, refl, sym, ap, subst, ◌∙◌, arith}
use Rattle.std.proofs.lemmas.Bool.{both_ways, cases_Bool, cases_lt, or_cases, or_left, or_right}
use Rattle.std.proofs.lemmas.List.{take_all}
use Rattle.std.proofs.lemmas.Slice.Zip.{AllZip-long}
use Rattle.tables.specs.Plan.{IsPlan, PlanParts}
use Rattle.settlement.specs.Claim.{IsClaimOf}
use Rattle.settlement.specs.Settlement.{outcome}
use Rattle.settlement.specs.declared.acc.Acc.{Acc}
use Rattle.settlement.specs.declared.claim.Claim.{Claim}
use Rattle.settlement.specs.declared.outcome.Outcome.{Outcome}
use Rattle.intake_csv.specs.Laws.{ClaimsHaveFields}
use Rattle.journal.specs.Terms.{Terms}
use Rattle.journal.specs.Events.{accepted_count, accepts, all_ended, closed, due, has_decision, has_end, has_take, is_close, is_end, places, reached}
use Rattle.journal.specs.Gate.{GateAt, LeadsTo, OfferReply, Offers, EndReply, Ends, TakeReply, Takes, FinishReply, Finishes}
use Rattle.journal.specs.InOrder.{AreFirstInOrder}
use Rattle.journal.specs.Laws.{JobsAreStable}
use Rattle.journal.specs.Settled.{outcome_of}
use Rattle.journal.specs.declared.order.Order.TheVariants.{Any}
use Rattle.journal.specs.Lawful.{Finished, IsReady, closing}
use Rattle.journal.specs.declared.event.Event.{Event}
use Rattle.journal.specs.declared.event.Event.TheVariants.{Accept, End, Take, Decide}
use Rattle.claim_gate.proofs.Sharing.{any_goes_on, job_stays}
use Rattle.claim_gate.specs.Parts.{GateParts, at}
use Rattle.claim_gate.specs.Shared.{IsLawful, IsOrdered}
use Rattle.claim_gate.specs.Terms.{AreClaimsOf, ForTerms, IsTermsOf, TermsParts}
use Rattle.claim_gate.specs.declared.job.Job.{Job}
use Rattle.adjudicate.proofs.Fields.{accepted-of, fields-decided}
use Rattle.adjudicate.specs.Settling.{AcceptsNone, AcceptsOne, HasOffered, HasTaken, IsAtWork, IsIdle, is_past}
use Rattle.adjudicate.proofs.Appended.{Alike, accepted_more, alike_further, closing_alike, closing_ends, decide_accepts, decide_places, decided_further, decided_now, decided_stays, decided_taken, end_alike, ended_now, not_decided_yet, not_taken_yet, places_more, places_of_others, take_accepts, take_decides, take_places, taken_now, taken_stays}
use Rattle.adjudicate.proofs.Readings.{equal, fails, holds}

-- a reading of the old state's terms is one of the new state's
module _ (old new : GateParts) (same : new.terms ≡ old.terms) where
  readable_still : ¬ ForTerms old.terms (λ T. ⊥) → ¬ ForTerms new.terms (λ T. ⊥)
  readable_still readable none = readable (λ T is. none T (subst (λ terms. IsTermsOf terms T) (sym same) is))

  -- a call that leaves the gate running leaves it at work
  at_work_still : (at_work : IsAtWork old) → IsLawful new → ForTerms old.terms (λ T. new.stopped ≡ false) → IsAtWork new
  at_work_still at_work lawful runs = record {
    readable = readable_still at_work.readable;
    runs = fails old.terms at_work.readable new.stopped runs;
    lawful = lawful;
  }

-- ---- an offer

module _ (old new : GateParts) (idle : IsIdle old) where
  readable_old : ¬ ForTerms old.terms (λ T. ⊥)
  readable_old = idle.at_work.readable

  -- an accepted claim is the last one, and not taken yet
  module _ (leads : LeadsTo old new) (lawful : IsLawful new) (provider place position : ℕ)
      (offers : ForTerms old.terms (λ T. Offers (at T old) provider place (OfferReply.Accepted position) (at T new))) where
    journal_is : (T : Terms) → IsTermsOf old.terms T → new.journal ≡ closing T (old.journal ++ Accept provider place ∷ [])
    journal_is T is = ap (λ (g : GateAt). g.journal) (offers T is).3

    alike : (T : Terms) → IsTermsOf old.terms T → Alike (old.journal ++ Accept provider place ∷ []) new.journal
    alike T is = subst (λ J. Alike (old.journal ++ Accept provider place ∷ []) J) (sym (journal_is T is)) (closing_alike T (old.journal ++ Accept provider place ∷ []))

    offered_at_work : IsAtWork new
    offered_at_work = at_work_still old new leads.terms idle.at_work lawful (λ T is. ap (λ (g : GateAt). g.stopped) (offers T is).3 ∙ idle.at_work.runs)

    pub has_offered : HasOffered new
    has_offered = record {
      at_work = offered_at_work;
      position = accepted_count old.journal;
      counted = equal old.terms readable_old (accepted_count new.journal) (accepted_count old.journal + 1) (λ T is.
          (alike T is).accepted ∙ accepted_more old.journal provider place);
      waits = fails old.terms readable_old (has_take new.journal (accepted_count old.journal)) (λ T is.
          (alike T is).taken (accepted_count old.journal) ∙ taken_stays old.journal provider place (accepted_count old.journal)
          ∙ not_taken_yet T old.journal (idle.at_work.lawful T is));
      decided = λ k below. holds old.terms readable_old (has_decision new.journal k) (λ T is.
          (alike T is).decided k ∙ decided_stays old.journal provider place k ∙ idle.decided k below);
    }

    pub accepts_one : AcceptsOne old new provider
    accepts_one = record {
      terms = leads.terms;
      one = equal old.terms readable_old (length (places new.journal provider)) (length (places old.journal provider) + 1) (λ T is.
          (alike T is).places provider ∙ places_more old.journal provider place);
      others = λ other differs. equal old.terms readable_old (length (places new.journal other)) (length (places old.journal other)) (λ T is.
          (alike T is).places other ∙ ap length (places_of_others old.journal provider place other differs));
    }

  -- a closed gate does not change
  pub closed_same : (provider place : ℕ) → ForTerms old.terms (λ T. Offers (at T old) provider place OfferReply.Closed (at T new)) → closed old.journal ≡ true
  closed_same provider place offers = holds old.terms readable_old (closed old.journal) (λ T is. (offers T is).1)

  -- the provider's next claim is not out of turn
  pub in_turn : (provider place expected : ℕ) → place ≡ length (places old.journal provider) → ForTerms old.terms (λ T. Offers (at T old) provider place (OfferReply.OutOfTurn expected) (at T new)) → ⊥
  in_turn provider place expected next offers = readable_old (λ T is.
      let r = offers T is in
      r.2 (next ∙ sym r.1))

  -- a gate at work is not stopped
  pub offer_runs : (provider place : ℕ) → ForTerms old.terms (λ T. Offers (at T old) provider place OfferReply.Stopped (at T new)) → ⊥
  offer_runs provider place offers = readable_old (λ T is. both_ways old.stopped idle.at_work.runs (offers T is).0)

-- ---- a take of the last accepted claim

module _ (old new : GateParts) (offered : HasOffered old) where
  seen : ¬ ForTerms old.terms (λ T. ⊥)
  seen = offered.at_work.readable

  undecided_yet : (T : Terms) → IsTermsOf old.terms T → has_decision old.journal offered.position ≡ false
  undecided_yet T is = not_decided_yet T old.journal (offered.at_work.lawful T is) offered.position offered.waits

  -- the last claim may be taken
  is_ready : (T : Terms) → IsReady T old.journal offered.position
  is_ready T = record {
    following = omega (arith, offered.counted);
    once = offered.waits;
    in_turn = λ k below lane. offered.decided k below;
  }

  pub not_over : ForTerms old.terms (λ T. Takes (at T old) TakeReply.Over (at T new)) → ⊥
  not_over takes = seen (λ T is.
      both_ways (has_decision old.journal offered.position) (undecided_yet T is) ((takes T is).1.all offered.position (omega (arith, offered.counted))))

  pub not_unready : ForTerms old.terms (λ T. Takes (at T old) TakeReply.NothingReady (at T new)) → ⊥
  not_unready takes = seen (λ T is. (takes T is).2 offered.position (is_ready T))

  pub take_runs : ForTerms old.terms (λ T. Takes (at T old) TakeReply.Stopped (at T new)) → ⊥
  take_runs takes = seen (λ T is. both_ways old.stopped offered.at_work.runs (takes T is).0)

  -- the job is that of the last accepted claim
  module _ (leads : LeadsTo old new) (lawful : IsLawful new) (job : Job)
      (takes : ForTerms old.terms (λ T. Takes (at T old) (TakeReply.Work job.position job.claim job.acc) (at T new))) where
    is_last_for : (T : Terms) → IsTermsOf old.terms T → job.position ≡ offered.position
    is_last_for T is =
        let ready = (takes T is).2.ready in
        elim (cases_lt job.position offered.position) [
          | inl below ↦ absurd (both_ways (has_take old.journal job.position) ready.once
              (decided_taken T old.journal (offered.at_work.lawful T is).sound job.position (offered.decided job.position below)))
          | inr past ↦ omega (arith, past, ready.following, offered.counted)
        ]

    is_last : job.position ≡ offered.position
    is_last = equal old.terms seen job.position offered.position is_last_for

    taken_journal : (T : Terms) → IsTermsOf old.terms T → new.journal ≡ old.journal ++ Take job.position ∷ []
    taken_journal T is = ap (λ (g : GateAt). g.journal) (takes T is).3

    taken_at_work : IsAtWork new
    taken_at_work = at_work_still old new leads.terms offered.at_work lawful (λ T is. ap (λ (g : GateAt). g.stopped) (takes T is).3 ∙ offered.at_work.runs)

    pub has_taken : ClaimsHaveFields → JobsAreStable → IsPlan old.terms.plan → HasTaken new job
    has_taken law stay sound = record {
      at_work = taken_at_work;
      counted = equal old.terms seen (accepted_count new.journal) (job.position + 1) (λ T is.
          ap accepted_count (taken_journal T is) ∙ take_accepts old.journal job.position ∙ offered.counted ∙ ap (λ n. n + 1) (sym is_last));
      in_work = holds old.terms seen (has_take new.journal job.position) (λ T is.
          ap (λ J. has_take J job.position) (taken_journal T is) ∙ taken_now old.journal job.position);
      undecided = fails old.terms seen (has_decision new.journal job.position) (λ T is.
          ap (λ J. has_decision J job.position) (taken_journal T is) ∙ take_decides old.journal job.position job.position
          ∙ ap (has_decision old.journal) is_last ∙ undecided_yet T is);
      decided = λ k below. holds old.terms seen (has_decision new.journal k) (λ T is.
          ap (λ J. has_decision J k) (taken_journal T is) ∙ take_decides old.journal job.position k ∙ offered.decided k (omega (arith, below, is_last)));
      is_job = job_stays stay old new job.position job.claim job.acc leads (λ T is. (takes T is).2.job);
      fields = subst (λ terms. IsClaimOf terms.plan job.claim) (sym leads.terms) (fields-decided old.terms.plan job.claim sound (λ other. seen (λ T is.
          other (accepted-of law old.terms T old.journal job.position job.claim sound is (takes T is).2.job.located))));
    }

    pub take_accepts_none : AcceptsNone old new
    take_accepts_none = record {
      terms = leads.terms;
      places = λ p. equal old.terms seen (length (places new.journal p)) (length (places old.journal p)) (λ T is.
          ap (λ J. length (places J p)) (taken_journal T is) ∙ take_places old.journal job.position p);
    }

-- ---- the record of a decision

module _ (old new : GateParts) (job : Job) (taken : HasTaken old job) where
  pub finish_runs : (decision : Outcome) → ForTerms old.terms (λ T. Finishes (at T old) job.position decision FinishReply.Stopped (at T new)) → ⊥
  finish_runs decision finishes = taken.at_work.readable (λ T is. both_ways old.stopped taken.at_work.runs (finishes T is).0)

  pub not_already : (decision : Outcome) → ForTerms old.terms (λ T. Finishes (at T old) job.position decision FinishReply.AlreadyDecided (at T new)) → ⊥
  not_already decision finishes = taken.at_work.readable (λ T is.
      both_ways (has_decision old.journal job.position) taken.undecided (finishes T is).1)

  module _ (decision : Outcome) (lawful : IsLawful new) (is : new ≡ record old { journal = old.journal ++ Decide job.position decision ∷ [] }) where
    same_terms : new.terms ≡ old.terms
    same_terms = ap (λ (g : GateParts). g.terms) is

    decided_journal : new.journal ≡ old.journal ++ Decide job.position decision ∷ []
    decided_journal = ap (λ (g : GateParts). g.journal) is

    decided_each : (k : ℕ) → k < job.position + 1 → has_decision (old.journal ++ Decide job.position decision ∷ []) k ≡ true
    decided_each k below =
        elim (cases_lt k job.position) [
          | inl before ↦ decided_further old.journal (Decide job.position decision) k (taken.decided k before)
          | inr past ↦
              let here : k ≡ job.position = omega (arith, below, past) in
              subst (λ j. has_decision (old.journal ++ Decide job.position decision ∷ []) j ≡ true) (sym here) (decided_now old.journal job.position decision)
        ]

    pub idle_again : IsIdle new
    idle_again = record {
      at_work = at_work_still old new same_terms taken.at_work lawful (λ T known. ap (λ (g : GateParts). g.stopped) is ∙ taken.at_work.runs);
      decided = λ k below.
          let count : accepted_count new.journal ≡ job.position + 1 =
          ap accepted_count decided_journal ∙ decide_accepts old.journal job.position decision ∙ taken.counted in
          ap (λ J. has_decision J k) decided_journal ∙ decided_each k (subst (λ n. k < n) count below);
    }

    pub decide_accepts_none : AcceptsNone old new
    decide_accepts_none = record {
      terms = same_terms;
      places = λ p. ap (λ J. length (places J p)) decided_journal ∙ decide_places old.journal job.position decision p;
    }

-- an outcome under the plan of an adjudicator is one under the plan of the terms
pub settled_as : (plan same : PlanParts) (claim : Claim) (acc : Acc) (decision : Outcome) → decision ≡ outcome plan claim acc → plan ≡ same → decision ≡ outcome_of same claim acc
unfolding outcome_of
settled_as plan same claim acc decision is plan_is = is ∙ ap (λ p. outcome p claim acc) plan_is

-- an acceptance is still the only one after calls that accept nothing
pub accepts_then_none : (first second third : GateParts) (provider : ℕ) → AcceptsOne first second provider → AcceptsNone second third → AcceptsOne first third provider
accepts_then_none first second third provider one none = record {
  terms = none.terms ∙ one.terms;
  one = none.places provider ∙ one.one;
  others = λ other differs. none.places other ∙ one.others other differs;
}

pub accepts_none_twice : (first second third : GateParts) → AcceptsNone first second → AcceptsNone second third → AcceptsNone first third
accepts_none_twice first second third one other = record { terms = other.terms ∙ one.terms; places = λ p. other.places p ∙ one.places p }

-- ---- the end of a provider

module _ (old new : GateParts) (idle : IsIdle old) where
  -- a call that changes nothing leaves the gate idle
  pub idle_same : new ≡ old → IsIdle new
  idle_same same = subst IsIdle (sym same) idle

  pub same_accepts_none : new ≡ old → AcceptsNone old new
  same_accepts_none same = record { terms = ap (λ (g : GateParts). g.terms) same; places = λ p. ap (λ (g : GateParts). length (places g.journal p)) same }

  pub end_runs : (provider count : ℕ) → ForTerms old.terms (λ T. Ends (at T old) provider count EndReply.Stopped (at T new)) → ⊥
  end_runs provider count ends = idle.at_work.readable (λ T is. both_ways old.stopped idle.at_work.runs (ends T is).0)

  pub none_lacks : (provider count expected : ℕ) → count ≡ length (places old.journal provider) → ForTerms old.terms (λ T. Ends (at T old) provider count (EndReply.OutOfTurn expected) (at T new)) → ⊥
  none_lacks provider count expected all ends = idle.at_work.readable (λ T is.
      let r = ends T is in
      omega (arith, r.1, r.2, all))

  pub closed_past : (provider count : ℕ) → new ≡ old → ForTerms old.terms (λ T. Ends (at T old) provider count EndReply.Closed (at T new)) → is_past new provider ≡ true
  closed_past provider count same ends =
      let is_closed = holds old.terms idle.at_work.readable (closed old.journal) (λ T is. (ends T is).1) in
      or_left (closed new.journal) (has_end new.journal provider) (ap (λ (g : GateParts). closed g.journal) same ∙ is_closed)

  pub already_past : (provider count : ℕ) → new ≡ old → ForTerms old.terms (λ T. Ends (at T old) provider count EndReply.AlreadyEnded (at T new)) → is_past new provider ≡ true
  already_past provider count same ends =
      let has_ended = holds old.terms idle.at_work.readable (has_end old.journal provider) (λ T is. (ends T is).2) in
      or_right (closed new.journal) (has_end new.journal provider) (ap (λ (g : GateParts). has_end g.journal provider) same ∙ has_ended)

  module _ (leads : LeadsTo old new) (lawful : IsLawful new) (provider count : ℕ)
      (ends : ForTerms old.terms (λ T. Ends (at T old) provider count EndReply.Ended (at T new))) where
    ended_journal : (T : Terms) → IsTermsOf old.terms T → new.journal ≡ closing T (old.journal ++ End provider ∷ [])
    ended_journal T is = ap (λ (g : GateAt). g.journal) (ends T is).3

    ended_alike : (T : Terms) → IsTermsOf old.terms T → Alike old.journal new.journal
    ended_alike T is =
        let longer = old.journal ++ End provider ∷ [] in
        subst (Alike old.journal) (sym (ended_journal T is)) (alike_further old.journal longer (closing T longer) (end_alike old.journal provider) (closing_alike T longer))

    pub idle_ended : IsIdle new
    idle_ended = record {
      at_work = at_work_still old new leads.terms idle.at_work lawful (λ T is. ap (λ (g : GateAt). g.stopped) (ends T is).3 ∙ idle.at_work.runs);
      decided = λ k below. holds old.terms idle.at_work.readable (has_decision new.journal k) (λ T is.
          (ended_alike T is).decided k ∙ idle.decided k (subst (λ n. k < n) (ended_alike T is).accepted below));
    }

    pub end_accepts_none : AcceptsNone old new
    end_accepts_none = record {
      terms = leads.terms;
      places = λ p. equal old.terms idle.at_work.readable (length (places new.journal p)) (length (places old.journal p)) (λ T is. (ended_alike T is).places p);
    }

    pub ended_past : is_past new provider ≡ true
    ended_past = or_right (closed new.journal) (has_end new.journal provider) (holds old.terms idle.at_work.readable (has_end new.journal provider) (λ T is.
        ap (λ J. has_end J provider) (ended_journal T is) ∙ closing_ends T (old.journal ++ End provider ∷ []) provider ∙ ended_now old.journal provider))

-- a provider of which no more claims are accepted remains one
pub past_still : (old new : GateParts) (provider : ℕ) → LeadsTo old new → is_past old provider ≡ true → is_past new provider ≡ true
past_still old new provider leads past = elim (or_cases (closed old.journal) (has_end old.journal provider) past) [
  | inl is_closed ↦ or_left (closed new.journal) (has_end new.journal provider) (any_goes_on is_close old.journal new.journal leads.journal is_closed)
  | inr has_ended ↦ or_right (closed new.journal) (has_end new.journal provider) (any_goes_on (is_end provider) old.journal new.journal leads.journal has_ended)
]

-- ---- the end of the run

-- where no journal is closed, providers are past only by their ends
ended_each : (gate : GateParts) (n : ℕ) → closed gate.journal ≡ false → ((provider : ℕ) → 1 ≤ provider → provider ≤ n → is_past gate provider ≡ true) → all_ended n gate.journal ≡ true
ended_each gate zero open_yet past = refl
ended_each gate (suc n) open_yet past =
    let here : has_end gate.journal (suc n) ≡ true = elim (or_cases (closed gate.journal) (has_end gate.journal (suc n)) (past (suc n) (omega arith) (omega arith))) [
      | inl is_closed ↦ absurd (both_ways (closed gate.journal) open_yet is_closed)
      | inr has_ended ↦ has_ended
    ] in
    let rest = ended_each gate n open_yet (λ p least most. past p least (omega arith)) in
    ap (λ b. b && all_ended n gate.journal) here ∙ rest

-- after each provider the journal is closed
pub closed_after_all : (gate : GateParts) → IsIdle gate → ((provider : ℕ) → 1 ≤ provider → provider ≤ length gate.terms.files → is_past gate provider ≡ true) → closed gate.journal ≡ true
closed_after_all gate idle past = elim (cases_Bool (closed gate.journal)) [
  | inl is_closed ↦ is_closed
  | inr open_yet ↦ holds gate.terms idle.at_work.readable (closed gate.journal) (λ T is.
      let files : length T.files ≡ length gate.terms.files = AllZip-long (AreClaimsOf gate.terms.plan.names) gate.terms.files T.files is.files in
      let ended = subst (λ n. all_ended n gate.journal ≡ true) (sym files) (ended_each gate (length gate.terms.files) open_yet past) in
      let now : due T gate.journal ≡ true = or_right (reached T.cutoff (accepted_count gate.journal)) (all_ended (length T.files) gate.journal) ended in
      (idle.at_work.lawful T is).closed_when_due (length gate.journal) (ap (due T) (take_all (length gate.journal) gate.journal (omega arith)) ∙ now))
]

-- an idle gate whose journal is closed has a finished journal
pub finished_for : (gate : GateParts) → IsIdle gate → closed gate.journal ≡ true → ForTerms gate.terms (λ T. Finished T gate.journal)
finished_for gate idle is_closed T is = record { lawful = idle.at_work.lawful T is; closed = is_closed; all = idle.decided }

pub not_unfinished : (parts : TermsParts) (gate : GateParts) → ¬ ForTerms parts (λ T. ⊥) → gate.terms ≡ parts → IsIdle gate → closed gate.journal ≡ true
    → ForTerms parts (λ T. ¬ Finished T gate.journal) → ⊥
not_unfinished parts gate readable same idle is_closed unfinished =
    readable (λ T is. unfinished T is (finished_for gate idle is_closed T (subst (λ terms. IsTermsOf terms T) (sym same) is)))

-- a journal that is taken out of a gate is in the order of the gate's terms
pub ordered_as : (parts : TermsParts) (gate : GateParts) (J : List Event) → gate.terms ≡ parts → J ≡ gate.journal → IsOrdered gate → parts.order ≢ Any
    → ForTerms parts (λ T. AreFirstInOrder parts.order T.files (accepts J))
ordered_as parts gate J same journal ordered asked =
    let P : TermsParts → List Event → Type 0 = λ terms K. terms.order ≢ Any → ForTerms terms (λ T. AreFirstInOrder terms.order T.files (accepts K)) in
    subst (P parts) (sym journal) (subst (λ terms. P terms gate.journal) same ordered) asked

-- one more provider is past
pub past_more : (old new : GateParts) (count : ℕ) → LeadsTo old new → ((provider : ℕ) → 1 ≤ provider → provider ≤ count → is_past old provider ≡ true) → is_past new (count + 1) ≡ true
    → (provider : ℕ) → 1 ≤ provider → provider ≤ count + 1 → is_past new provider ≡ true
past_more old new count leads before here provider least most =
    elim (cases_lt count provider) [
      | inl last ↦
          let is : provider ≡ count + 1 = omega (arith, last, most) in
          subst (λ p. is_past new p ≡ true) (sym is) here
      | inr earlier ↦ past_still old new provider leads (before provider least earlier)
    ]
