-- How the results of a gate's calls follow from its indexes.
use Rattle.std.proofs.Common.{◌≡◌, ℕ, zero, suc, ◌<◌, ◌≤◌, ◌+◌, ◌==◌, ◌&&◌, Bool, true, false, List, [], ◌∷◌, ◌++◌, length, get_or, replicate, cond, Option, Some, None, option_map, IsSome, IsTrue, Result, Ok, Err, OnOk, IfOk, is_err, refl, sym, ap, ◌∙◌, subst, inl, inr, arith, length-append, append_assoc}
use Rattle.std.specs.Borrow.{Bor}
use Rattle.std.specs.List.{count_by, list_all, slice_get}
use Rattle.std.specs.Option.{SomeIff, is_some, option_map_or}
use Rattle.std.proofs.lemmas.Bool.{both_ways, cases_lt}
use Rattle.std.proofs.lemmas.List.{get_or_past, length-map}
use Rattle.std.proofs.lemmas.List.Recursion.{and_at, and_from_places}
use Rattle.std.proofs.lemmas.Option.{none-some, same_Some, slice_get-get_or}
use Rattle.settlement.specs.Accumulators.{after, AreInRange}
use Rattle.settlement.specs.Settlement.{outcome}
use Rattle.settlement.specs.declared.acc.Acc.{Acc}
use Rattle.settlement.specs.declared.claim.Claim.{Claim}
use Rattle.settlement.specs.declared.outcome.Outcome.{Outcome}
use Rattle.tables.specs.Plan.{PlanParts}
use Rattle.claim_gate.specs.Terms.{TermsParts, AreTerms, texts_of, ForTerms}
use Rattle.journal.specs.Places.{Place, is_decided, phase_at, started, InTurn}
use Rattle.journal.specs.declared.phase.Phase.TheVariants.{InWork}
use Rattle.journal.specs.declared.ready_claim.ReadyClaim.{ReadyClaim}
use Rattle.journal.specs.Calls.{next_place, with_phase, with_decision, IsPicked, NothingReady}
use Rattle.settlement.specs.Accounts.{account_of, account_year}
use Rattle.settlement.specs.Opening.{opening}
use Rattle.intake_csv.specs.Balances.{accounts_of}
use Rattle.journal.specs.Terms.{Terms, IsProvider, claims_of}
use Rattle.journal.specs.Settled.{outcome_of, accumulated}
use Rattle.journal.specs.Events.{accepted_count, place_in, places, closed, has_take, has_decision, IsJob}
use Rattle.journal.specs.Leading.{leads_itself, running_leads}
use Rattle.journal.specs.Gate.{OfferReply, EndReply, TakeReply, Continues, GateAt, LeadsTo, Offers, Ends, Takes, is_any_decision}
use Rattle.journal.specs.Lawful.{Finished, Lawful}
use Rattle.claim_gate.specs.Shared.{IsDueAt}
use Rattle.journal.specs.InOrder.{DueClaimStaysInOrder}
use Rattle.journal.specs.Laws.{EmptyJournalIsLawful, OfferGoes, EndGoes, TakeGoes, FinishGoes}
use Rattle.journal.specs.declared.event.Event.{Event}
use Rattle.journal.specs.declared.event.Event.TheVariants.{Accept, End, Close, Take, Decide}
use Rattle.claim_gate.specs.declared.intakes.Intake.{Intake}
use Rattle.claim_gate.specs.declared.job.Job.{Job}
use Rattle.claim_gate.specs.declared.offer.Offer.{Offer}
use Rattle.claim_gate.specs.declared.state.GateState.TheInside.{Inside}
use Rattle.claim_gate.specs.Intakes.{no_intake, none_yet, intake_of, with_accept, with_end}
use Rattle.claim_gate.specs.GateIndex.{AreIntakesOf, AreMarked, IsKept, is_due}
use Rattle.claim_gate.specs.Parts.{GateParts, at}
use Rattle.claim_gate.specs.Replies.{HasClaims, IsFiled, IsOver, first_journal}
use Rattle.claim_gate.proofs.Calls.{closed_where, offer_accepted, kept_accept, end_ended, kept_end, first_is, kept_start, take_work, kept_take, take_over, take_nothing, is_in_work, kept_decision}
use Rattle.claim_gate.proofs.Claims.{nowhere}
use Rattle.claim_gate.proofs.Providers.{known_intake}
use Rattle.claim_gate.proofs.Tallies.{all_by_count}

-- what a call ensures if it succeeds, after it has succeeded
pub ok-then : {X E : Type 0} (r : Result X E) (P : Type 0) → is_err r ≡ false → IfOk r (λ _. P) → P
ok-then (Ok x) P succeeded holds = holds
ok-then (Err e) P succeeded holds = absurd (both_ways true succeeded refl)

pub ok-holds : {X E : Type 0} (r : Result X E) (P : Type 0) → is_err r ≡ false → OnOk r P → P
ok-holds (Ok x) P succeeded holds = holds
ok-holds (Err e) P succeeded holds = absurd (both_ways true succeeded refl)

-- an event continues a journal, with or without the close after it
event_goes_on : (b : Bool) (J : List Event) (event : Event) → Continues J (closed_where b (J ++ event ∷ []))
event_goes_on true J event = record { rest = event ∷ Close ∷ []; whole = append_assoc J (event ∷ []) (Close ∷ []) }
event_goes_on false J event = record { rest = event ∷ []; whole = refl }

-- the gate with these fields, as contracts see it
abbrev pub seen : Inside → GateParts
seen s = record { terms = s.terms.now; journal = s.journal.items; stopped = s.stopped }

-- the gate with another journal, as contracts see it
abbrev pub seen_with : Inside → List Event → GateParts
seen_with s J = record { terms = s.terms.now; journal = J; stopped = s.stopped }

-- a gate whose journal has not changed has not changed
pub same_view : (s : Inside) (g : GateParts) (J : List Event) → seen s ≡ g → J ≡ s.journal.items → seen_with s J ≡ g
same_view s g J is same = ap (seen_with s) same ∙ is

-- a gate whose journal has one more event
pub grown_view : (s : Inside) (g : GateParts) (J : List Event) (event : Event) → seen s ≡ g → J ≡ s.journal.items ++ event ∷ []
    → seen_with s J ≡ record g { journal = g.journal ++ event ∷ [] }
grown_view s g J event is same = subst (λ w. seen_with s J ≡ record w { journal = w.journal ++ event ∷ [] }) is (ap (seen_with s) same)

pub grown_leads : (g new : GateParts) (event : Event) → g.stopped ≡ false → new ≡ record g { journal = g.journal ++ event ∷ [] } → LeadsTo g new
grown_leads g new event runs same =
    running_leads g new runs (ap (λ (w : GateParts). w.terms) same) (record { rest = event ∷ []; whole = ap (λ (w : GateParts). w.journal) same })

-- the indexes of the gate agree with its journal
abbrev pub Keeps : Inside → Type 0
Keeps s = IsKept s.terms.now s.journal.items s.lanes s.intakes s.closed s.decisions

-- the indexes agree with the journal if neither it nor the entries have changed
pub kept_alike : (s : Inside) (J : List Event) (lanes : List Place) → J ≡ s.journal.items → lanes ≡ s.lanes → Keeps s
    → IsKept s.terms.now J lanes s.intakes s.closed s.decisions
kept_alike s J lanes journal_is lanes_are kept = rw (journal_is, lanes_are) kept

-- a gate that has not changed leads to itself
pub leads_alike : (old new : GateParts) → new ≡ old → LeadsTo old new
leads_alike old new same = subst (λ g. LeadsTo old g) (sym same) (leads_itself old)

known_by : (T : Terms) (provider place : ℕ) (claim : Claim) → slice_get (claims_of T provider) place ≡ Some claim → IsProvider T provider
known_by T zero place claim h = absurd (none-some claim h)
known_by T (suc q) place claim h =
    elim (cases_lt q (length T.files)) [
      | inl within ↦ record { least = omega arith; most = omega arith }
      | inr past ↦ absurd (none-some claim (sym (ap (λ w. slice_get w place) (get_or_past T.files q [] past)) ∙ h))
    ]

few_by : (b : Bool) (place : ℕ) → length (cond b (place ∷ []) []) ≤ 1
few_by true place = omega arith
few_by false place = omega arith

few_in : (provider : ℕ) (event : Event) → length (place_in provider event) ≤ 1
few_in provider (Accept p place) = few_by (p == provider) place
few_in provider (End p) = omega arith
few_in provider Close = omega arith
few_in provider (Take k) = omega arith
few_in provider (Decide k o) = omega arith

pub places_within : (J : List Event) (provider : ℕ) → length (places J provider) ≤ length J
places_within [] provider = omega arith
places_within (event ∷ J) provider =
    let rest : length (places J provider) ≤ length J = places_within J provider in
    let one : length (place_in provider event) ≤ 1 = few_in provider event in
    let both : length (place_in provider event ++ places J provider) ≡ length (place_in provider event) + length (places J provider) =
    length-append (place_in provider event) (places J provider) in
    omega arith

-- a journal has at least as many events as a provider has accepted claims
pub accepted_within : (J : List Event) (providers : ℕ) (intakes : List Intake) (provider : ℕ) → AreIntakesOf J providers intakes → (intake_of intakes provider).accepted ≤ length J
accepted_within J providers intakes zero I = omega arith
accepted_within J providers intakes (suc q) I =
    elim (cases_lt q (length intakes)) [
      | inl within ↦
          let many : length intakes ≡ providers = I.as_many in
          let is = I.each q (omega arith) in
          let same : (get_or intakes q no_intake).accepted ≡ length (places J (suc q)) = is.accepted_is in
          let few : length (places J (suc q)) ≤ length J = places_within J (suc q) in
          omega arith
      | inr past ↦
          let none : (get_or intakes q no_intake).accepted ≡ 0 = ap (λ (x : Intake). x.accepted) (get_or_past intakes q no_intake past) in
          omega arith
    ]

module _ (J : List Event) (lanes : List Place) (marked : AreMarked J lanes) where
  -- there is an entry at each accepted position
  accepted_place : (k : ℕ) → k < accepted_count J → slice_get lanes k ≡ Some (get_or lanes k nowhere)
  accepted_place k below =
      let many : length lanes ≡ accepted_count J = marked.as_many in
      slice_get-get_or lanes k nowhere (omega arith)

  decided_place : (k : ℕ) → k < accepted_count J → has_decision J k ≡ is_decided (get_or lanes k nowhere).phase
  decided_place k below =
      marked.decided_are k ∙ ap (λ o. option_map_or is_decided (option_map (λ (p : Place). p.phase) o) false) (accepted_place k below)

  every_decided : list_all (λ place. is_decided place.phase) lanes ≡ true → (k : ℕ) → k < accepted_count J → has_decision J k ≡ true
  every_decided every k below =
      let many : length lanes ≡ accepted_count J = marked.as_many in
      decided_place k below
      ∙ and_at (list_all (λ place. is_decided place.phase)) (λ (place : Place). is_decided place.phase) refl (λ x xs. refl) lanes k nowhere (omega arith) every

  all_places : ((k : ℕ) → k < accepted_count J → has_decision J k ≡ true) → list_all (λ place. is_decided place.phase) lanes ≡ true
  all_places every =
      and_from_places (list_all (λ place. is_decided place.phase)) (λ (place : Place). is_decided place.phase) refl (λ x xs. refl) lanes nowhere
      (λ k within.
      let many : length lanes ≡ accepted_count J = marked.as_many in
      let below : k < accepted_count J = omega arith in
      sym (decided_place k below) ∙ every k below)

  -- if the journal is closed, it is over exactly if as many claims are decided as are accepted
  pub over_by_count : (decisions count : ℕ) → closed J ≡ true → decisions ≡ count_by is_any_decision J → count ≡ length lanes
      → (IsTrue (decisions == count) → IsOver J) × (IsOver J → IsTrue (decisions == count))
  over_by_count decisions count is_closed counted long =
      let test : (decisions == count) ≡ list_all (λ place. is_decided place.phase) lanes =
      ap (λ n. n == count) (counted ∙ marked.decisions)
      ∙ ap (λ n. count_by (λ (place : Place). is_decided place.phase) lanes == n) long
      ∙ all_by_count (λ place. is_decided place.phase) lanes in
      (λ h. record { closed = is_closed; all = every_decided (sym test ∙ h) }, λ over. (test ∙ all_places over.all))

module _ (s : Inside) (g : GateParts) (is : seen s ≡ g) (kept : Keeps s) where
  -- the gate with another journal, as journals see it
  abbrev pub gate_of : Terms → List Event → GateAt
  gate_of T J = record { terms = T; journal = J; stopped = s.stopped }

  still_open : s.closed ≡ false → closed s.journal.items ≡ false
  still_open h = sym kept.closed_is ∙ h

  -- what the gate's fields imply of the gate as contracts see it
  pub stopped_seen : s.stopped ≡ true → g.stopped ≡ true
  stopped_seen h = subst (λ w. w.stopped ≡ true) is h

  pub runs_seen : s.stopped ≡ false → g.stopped ≡ false
  runs_seen h = subst (λ w. w.stopped ≡ false) is h

  pub closed_seen : s.closed ≡ true → closed g.journal ≡ true
  closed_seen h = subst (λ w. closed w.journal ≡ true) is (sym kept.closed_is ∙ h)

  -- a claim that was taken and is not decided is in work
  pub work_seen : (k : ℕ) → has_decision g.journal k ≡ false → has_take g.journal k ≡ true → phase_at s.lanes k ≡ Some InWork
  work_seen k once taken =
      is_in_work s.journal.items s.lanes kept.marked k (subst (λ w. has_decision w.journal k ≡ false) (sym is) once) (subst (λ w. has_take w.journal k ≡ true) (sym is) taken)

  -- an offer at another place than the provider's next one is refused
  pub out_of_turn : (offer : Offer) (expected : ℕ) → ForTerms g.terms (λ T. IsFiled T offer) → s.stopped ≡ false → s.closed ≡ false
      → expected ≡ (intake_of s.intakes offer.provider).accepted → (offer.place ≡ expected → ⊥)
      → ForTerms g.terms (λ T. Offers (at T g) offer.provider offer.place (OfferReply.OutOfTurn expected) (at T g))
  out_of_turn offer expected filed runs open_yet expects other =
      subst (λ w. ForTerms w.terms (λ T. IsFiled T offer) → ForTerms w.terms (λ T. Offers (at T w) offer.provider offer.place (OfferReply.OutOfTurn expected) (at T w))) is
      (λ filed_so T terms.
      let known = known_by T offer.provider offer.place offer.claim (filed_so T terms) in
      let intake = known_intake s.terms.now T s.journal.items s.intakes offer.provider terms kept.intakes_are known in
      ((runs, still_open open_yet), expects ∙ intake.accepted_is, other, refl))
      filed

  -- an offer at the provider's next place is in turn
  pub in_turn : (offer : Offer) (expected : ℕ) → ForTerms g.terms (λ T. IsFiled T offer)
      → expected ≡ (intake_of s.intakes offer.provider).accepted → offer.place ≡ expected
      → ForTerms g.terms (λ T. offer.place ≡ length (places g.journal offer.provider))
  in_turn offer expected filed expects next =
      subst (λ w. ForTerms w.terms (λ T. IsFiled T offer) → ForTerms w.terms (λ T. offer.place ≡ length (places w.journal offer.provider))) is
      (λ filed_so T terms.
      let known = known_by T offer.provider offer.place offer.claim (filed_so T terms) in
      let intake = known_intake s.terms.now T s.journal.items s.intakes offer.provider terms kept.intakes_are known in
      next ∙ expects ∙ intake.accepted_is)
      filed

  runs_so : g.stopped ≡ false → s.stopped ≡ false
  runs_so h = subst (λ w. w.stopped ≡ false) (sym is) h

  over_so : IsOver g.journal → IsOver s.journal.items
  over_so h = subst (λ w. IsOver w.journal) (sym is) h

  over_seen : IsOver s.journal.items → IsOver g.journal
  over_seen h = subst (λ w. IsOver w.journal) is h

  module _ (offer : Offer) (position year : ℕ) (J1 J2 : List Event) (lanes : List Place) (intakes : List Intake) (b : Bool) where
    -- the gate after it has accepted a claim
    pub record IsAccepted : Type 0 where
      pub keeps : IsKept s.terms.now J2 lanes intakes b s.decisions
      pub reply : ForTerms g.terms (λ T. Offers (at T g) offer.provider offer.place (OfferReply.Accepted position) (gate_of T J2))
      pub goes_on : Continues g.journal J2

    pub accepts : OfferGoes → DueClaimStaysInOrder → IsDueAt g offer.provider offer.place → g.stopped ≡ false → closed g.journal ≡ false → ForTerms g.terms (λ T. IsFiled T offer)
        → ForTerms g.terms (λ T. offer.place ≡ length (places g.journal offer.provider))
        → position ≡ length s.lanes → year ≡ account_year s.terms.now.plan offer.claim
        → lanes ≡ s.lanes ++ next_place s.lanes offer.claim year ∷ [] → intakes ≡ with_accept s.intakes offer.provider
        → J1 ≡ s.journal.items ++ Accept offer.provider offer.place ∷ [] → J2 ≡ closed_where b J1
        → b ≡ is_due s.terms.now (length lanes) intakes
        → IsAccepted
    accepts goes stays next runs open_yet filed turn located dated lanes_are intakes_are accept_is journal_is when =
        let runs' : s.stopped ≡ false = runs_so runs in
        let open' : closed s.journal.items ≡ false = subst (λ w. closed w.journal ≡ false) (sym is) open_yet in
        let filed' : ForTerms s.terms.now (λ T. IsFiled T offer) = subst (λ w. ForTerms w.terms (λ T. IsFiled T offer)) (sym is) filed in
        let turn' : ForTerms s.terms.now (λ T. offer.place ≡ length (places s.journal.items offer.provider)) =
        subst (λ w. ForTerms w.terms (λ T. offer.place ≡ length (places w.journal offer.provider))) (sym is) turn in
        let next' : IsDueAt (seen s) offer.provider offer.place = subst (λ w. IsDueAt w offer.provider offer.place) (sym is) next in
        let more : List Place = s.lanes ++ next_place s.lanes offer.claim year ∷ [] in
        let when' : b ≡ is_due s.terms.now (length more) (with_accept s.intakes offer.provider) =
        when ∙ ap (λ l. is_due s.terms.now (length l) intakes) lanes_are ∙ ap (is_due s.terms.now (length more)) intakes_are in
        let journal' : J2 ≡ closed_where b (s.journal.items ++ Accept offer.provider offer.place ∷ []) = journal_is ∙ ap (closed_where b) accept_is in
        let keeps = kept_accept s.terms.now s.journal.items s.stopped s.lanes s.intakes s.closed s.decisions kept goes stays
        offer.provider offer.place offer.claim year b runs' open' filed' turn' next' dated when' in
        let answers = offer_accepted s.terms.now s.journal.items s.stopped s.lanes s.intakes s.closed s.decisions kept goes stays
        offer.provider offer.place offer.claim year b runs' open' filed' turn' next' dated when' in
        record {
          keeps =
              subst (λ j. IsKept s.terms.now j lanes intakes b s.decisions) (sym journal')
              (subst (λ l. IsKept s.terms.now (closed_where b (s.journal.items ++ Accept offer.provider offer.place ∷ [])) l intakes b s.decisions) (sym lanes_are)
              (subst (λ i. IsKept s.terms.now (closed_where b (s.journal.items ++ Accept offer.provider offer.place ∷ [])) more i b s.decisions) (sym intakes_are) keeps));
          reply =
              subst (λ w. ForTerms w.terms (λ T. Offers (at T w) offer.provider offer.place (OfferReply.Accepted position) (gate_of T J2))) is
              (λ T terms.
              subst (λ j. Offers (at T (seen s)) offer.provider offer.place (OfferReply.Accepted position) (gate_of T j)) (sym journal')
              (subst (λ n. Offers (at T (seen s)) offer.provider offer.place (OfferReply.Accepted n) (gate_of T (closed_where b (s.journal.items ++ Accept offer.provider offer.place ∷ []))))
              (sym located) (answers T terms)));
          goes_on =
              subst (λ w. Continues w.journal J2) is
              (subst (Continues s.journal.items) (sym journal') (event_goes_on b s.journal.items (Accept offer.provider offer.place)));
        }

  -- an end is refused if too few claims of the provider are accepted
  pub too_few : (provider count expected : ℕ) → ForTerms g.terms (λ T. HasClaims T provider count) → s.stopped ≡ false → s.closed ≡ false
      → expected ≡ (intake_of s.intakes provider).accepted → expected < count
      → ForTerms g.terms (λ T. Ends (at T g) provider count (EndReply.OutOfTurn expected) (at T g))
  too_few provider count expected known runs open_yet expects few =
      subst (λ w. ForTerms w.terms (λ T. HasClaims T provider count) → ForTerms w.terms (λ T. Ends (at T w) provider count (EndReply.OutOfTurn expected) (at T w))) is
      (λ known_so T terms.
      let intake = known_intake s.terms.now T s.journal.items s.intakes provider terms kept.intakes_are (known_so T terms).known in
      ((runs, still_open open_yet), expects ∙ intake.accepted_is, few, refl))
      known

  -- an end is refused if the provider has already ended
  pub ended_before : (provider count expected : ℕ) → ForTerms g.terms (λ T. HasClaims T provider count) → s.stopped ≡ false → s.closed ≡ false
      → expected ≡ (intake_of s.intakes provider).accepted → count ≤ expected → true ≡ (intake_of s.intakes provider).ended
      → ForTerms g.terms (λ T. Ends (at T g) provider count EndReply.AlreadyEnded (at T g))
  ended_before provider count expected known runs open_yet expects enough before =
      subst (λ w. ForTerms w.terms (λ T. HasClaims T provider count) → ForTerms w.terms (λ T. Ends (at T w) provider count EndReply.AlreadyEnded (at T w))) is
      (λ known_so T terms.
      let intake = known_intake s.terms.now T s.journal.items s.intakes provider terms kept.intakes_are (known_so T terms).known in
      let same : expected ≡ length (places s.journal.items provider) = expects ∙ intake.accepted_is in
      let all : count ≤ length (places s.journal.items provider) = omega arith in
      ((runs, still_open open_yet), all, sym (before ∙ intake.ended_is), refl))
      known

  module _ (provider count expected : ℕ) (J1 J2 : List Event) (intakes : List Intake) (b : Bool) where
    -- the gate after a provider has ended
    pub record IsEnded : Type 0 where
      pub keeps : IsKept s.terms.now J2 s.lanes intakes b s.decisions
      pub reply : ForTerms g.terms (λ T. Ends (at T g) provider count EndReply.Ended (gate_of T J2))
      pub goes_on : Continues g.journal J2

    pub ends : EndGoes → ForTerms g.terms (λ T. HasClaims T provider count) → s.stopped ≡ false → s.closed ≡ false
        → expected ≡ (intake_of s.intakes provider).accepted → count ≤ expected → false ≡ (intake_of s.intakes provider).ended
        → intakes ≡ with_end s.intakes provider → J1 ≡ s.journal.items ++ End provider ∷ [] → J2 ≡ closed_where b J1
        → b ≡ is_due s.terms.now (length s.lanes) intakes
        → IsEnded
    ends goes known runs open_yet expects enough once intakes_are end_is journal_is when =
        let known' : ForTerms s.terms.now (λ T. HasClaims T provider count) = subst (λ w. ForTerms w.terms (λ T. HasClaims T provider count)) (sym is) known in
        let whole : ForTerms s.terms.now (λ T. count ≤ length (places s.journal.items provider)) =
        λ T terms.
        let intake = known_intake s.terms.now T s.journal.items s.intakes provider terms kept.intakes_are (known' T terms).known in
        let same : expected ≡ length (places s.journal.items provider) = expects ∙ intake.accepted_is in
        omega arith in
        let when' : b ≡ is_due s.terms.now (length s.lanes) (with_end s.intakes provider) = when ∙ ap (is_due s.terms.now (length s.lanes)) intakes_are in
        let journal' : J2 ≡ closed_where b (s.journal.items ++ End provider ∷ []) = journal_is ∙ ap (closed_where b) end_is in
        let keeps = kept_end s.terms.now s.journal.items s.stopped s.lanes s.intakes s.closed s.decisions kept goes
        provider count b runs (still_open open_yet) known' whole (sym once) when' in
        let answers = end_ended s.terms.now s.journal.items s.stopped s.lanes s.intakes s.closed s.decisions kept goes
        provider count b runs (still_open open_yet) known' whole (sym once) when' in
        record {
          keeps =
              subst (λ j. IsKept s.terms.now j s.lanes intakes b s.decisions) (sym journal')
              (subst (λ i. IsKept s.terms.now (closed_where b (s.journal.items ++ End provider ∷ [])) s.lanes i b s.decisions) (sym intakes_are) keeps);
          reply =
              subst (λ w. ForTerms w.terms (λ T. Ends (at T w) provider count EndReply.Ended (gate_of T J2))) is
              (λ T terms. subst (λ j. Ends (at T (seen s)) provider count EndReply.Ended (gate_of T j)) (sym journal') (answers T terms));
          goes_on =
              subst (λ w. Continues w.journal J2) is (subst (Continues s.journal.items) (sym journal') (event_goes_on b s.journal.items (End provider)));
        }

  -- `take` returns `Over` if the journal is over
  pub is_over : s.stopped ≡ false → IsOver g.journal → ForTerms g.terms (λ T. Takes (at T g) TakeReply.Over (at T g))
  is_over runs over =
      subst (λ w. ForTerms w.terms (λ T. Takes (at T w) TakeReply.Over (at T w))) is
      (λ T terms. take_over s.terms.now s.journal.items s.stopped s.lanes s.intakes s.closed s.decisions kept T terms runs (over_so over))

  -- `take` returns `NothingReady` if no entry is ready
  pub nothing_ready : (J2 : List Event) (lanes : List Place) → InTurn lanes → lanes ≡ s.lanes → s.stopped ≡ false → (IsOver g.journal → ⊥) → NothingReady s.lanes → J2 ≡ s.journal.items
      → ForTerms g.terms (λ T. Takes (at T g) TakeReply.NothingReady (gate_of T J2))
  nothing_ready J2 lanes turns lanes_are runs not_over none same =
      subst (λ w. ForTerms w.terms (λ T. Takes (at T w) TakeReply.NothingReady (gate_of T J2))) is
      (λ T terms.
      subst (λ j. Takes (at T (seen s)) TakeReply.NothingReady (gate_of T j)) (sym same)
      (take_nothing s.terms.now s.journal.items s.stopped s.lanes s.intakes s.closed s.decisions kept T terms (subst InTurn lanes_are turns) runs (λ h. not_over (over_seen h)) none))

  module _ (picked : ReadyClaim) (acc : Acc) (J2 : List Event) (lanes : List Place) where
    -- the gate after a claim is taken
    pub record IsTaken : Type 0 where
      pub keeps : IsKept s.terms.now J2 lanes s.intakes s.closed s.decisions
      pub reply : ForTerms g.terms (λ T. Takes (at T g) (TakeReply.Work picked.position picked.claim acc) (gate_of T J2))

    pub takes : TakeGoes → InTurn lanes → s.stopped ≡ false → (IsOver g.journal → ⊥) → IsPicked s.lanes picked
        → acc ≡ started (opening (accounts_of s.terms.now.balances) (account_of s.terms.now.plan picked.claim)) picked.own picked.family_year
        → lanes ≡ with_phase s.lanes picked.position InWork → J2 ≡ s.journal.items ++ Take picked.position ∷ []
        → IsTaken
    takes goes turns runs not_over is_picked begins lanes_are journal_is =
        let keeps = kept_take s.terms.now s.journal.items s.stopped s.lanes s.intakes s.closed s.decisions kept goes
        picked acc (subst InTurn lanes_are turns) runs (λ h. not_over (over_seen h)) is_picked begins in
        let answers = take_work s.terms.now s.journal.items s.stopped s.lanes s.intakes s.closed s.decisions kept goes
        picked acc (subst InTurn lanes_are turns) runs (λ h. not_over (over_seen h)) is_picked begins in
        record {
          keeps =
              subst (λ j. IsKept s.terms.now j lanes s.intakes s.closed s.decisions) (sym journal_is)
              (subst (λ l. IsKept s.terms.now (s.journal.items ++ Take picked.position ∷ []) l s.intakes s.closed s.decisions) (sym lanes_are) keeps);
          reply =
              subst (λ w. ForTerms w.terms (λ T. Takes (at T w) (TakeReply.Work picked.position picked.claim acc) (gate_of T J2))) is
              (λ T terms. subst (λ j. Takes (at T (seen s)) (TakeReply.Work picked.position picked.claim acc) (gate_of T j)) (sym journal_is) (answers T terms));
        }

  -- the indexes agree with the journal after a decision is recorded
  pub records : (job : Job) (outcome : Outcome) (left : Acc) (J2 : List Event) (lanes : List Place) → FinishGoes
      → g.stopped ≡ false → has_decision g.journal job.position ≡ false → has_take g.journal job.position ≡ true
      → ForTerms g.terms (λ T. IsJob T g.journal job.position job.claim job.acc) → outcome ≡ outcome_of g.terms.plan job.claim job.acc
      → left ≡ accumulated true true job.acc outcome → lanes ≡ with_decision s.lanes job.position left
      → J2 ≡ s.journal.items ++ Decide job.position outcome ∷ []
      → IsKept s.terms.now J2 lanes s.intakes s.closed (s.decisions + 1)
  records job outcome left J2 lanes goes runs once in_work its settled leaves lanes_are journal_is =
      let keeps = kept_decision s.terms.now s.journal.items s.stopped s.lanes s.intakes s.closed s.decisions kept goes
      job.position job.claim job.acc left outcome (runs_so runs)
      (subst (λ w. has_decision w.journal job.position ≡ false) (sym is) once)
      (subst (λ w. has_take w.journal job.position ≡ true) (sym is) in_work)
      (subst (λ w. ForTerms w.terms (λ T. IsJob T w.journal job.position job.claim job.acc)) (sym is) its)
      (subst (λ w. outcome ≡ outcome_of w.terms.plan job.claim job.acc) (sym is) settled)
      leaves in
      subst (λ j. IsKept s.terms.now j lanes s.intakes s.closed (s.decisions + 1)) (sym journal_is)
      (subst (λ l. IsKept s.terms.now (s.journal.items ++ Decide job.position outcome ∷ []) l s.intakes s.closed (s.decisions + 1)) (sym lanes_are) keeps)

-- there are accumulators after the outcome of a settlement
pub settles : (plan : PlanParts) (claim : Claim) (acc : Acc) (decided_so : Outcome) (left : Option Acc)
    → ((p : PlanParts) (c : Claim) → decided_so ≡ outcome p c acc → IsSome left) → decided_so ≡ outcome_of plan claim acc → IsSome left
unfolding outcome_of
settles plan claim acc decided_so left h e = h plan claim e

-- they are the accumulators before it with the outcome's amounts added
pub left_is : (acc : Acc) (decided_so : Outcome) (o : Option Acc) (left : Acc) → SomeIff o (AreInRange (after acc decided_so)) (after acc decided_so)
    → o ≡ Some left → left ≡ accumulated true true acc decided_so
unfolding accumulated
left_is acc decided_so None left h e = absurd (none-some left e)
left_is acc decided_so (Some x) left h e = sym (same_Some x left e) ∙ h.1

-- the indexes of a new gate agree with its journal, which is the first one
pub record IsStarted (terms : TermsParts) (J : List Event) (lanes : List Place) (intakes : List Intake) (b : Bool) : Type 0 where
  pub keeps : IsKept terms J lanes intakes b 0
  pub journal : J ≡ first_journal terms.cutoff

pub starts : (terms : TermsParts) (files : List (Bor (List ℕ))) (J1 J2 : List Event) (lanes : List Place) (intakes : List Intake) (b : Bool)
    → EmptyJournalIsLawful → AreTerms terms → texts_of files ≡ terms.files → lanes ≡ [] → intakes ≡ replicate (length files) none_yet
    → J1 ≡ [] → J2 ≡ closed_where b J1 → b ≡ is_due terms 0 intakes → IsStarted terms J2 lanes intakes b
starts terms files J1 J2 lanes intakes b lawful are files_are no_lanes intakes_are first journal_is when =
    let many : length files ≡ length terms.files = sym (length-map files (λ (f : Bor (List ℕ)). f.now)) ∙ ap length files_are in
    let all : intakes ≡ replicate (length terms.files) none_yet = intakes_are ∙ ap (λ n. replicate n none_yet) many in
    let due = when ∙ ap (is_due terms 0) all in
    let keeps = kept_start terms lawful b are.count.least due in
    let alone : J2 ≡ closed_where b [] = journal_is ∙ ap (closed_where b) first in
    record {
      keeps =
          subst (λ j. IsKept terms j lanes intakes b 0) (sym alone)
          (subst (λ l. IsKept terms (closed_where b []) l intakes b 0) (sym no_lanes)
          (subst (λ i. IsKept terms (closed_where b []) [] i b 0) (sym all) keeps));
      journal = alone ∙ first_is terms lawful b are.count.least due;
    }

-- the gate with this journal, which is not stopped
abbrev pub running : TermsParts → List Event → GateParts
running terms J = record { terms = terms; journal = J; stopped = false }

-- a lawful journal that is over is finished
pub over_finished : (T : Terms) (J K : List Event) → K ≡ J → Lawful T J → IsOver J → Finished T K
over_finished T J K same lawful over = subst (Finished T) (sym same) (record { lawful = lawful; closed = over.closed; all = over.all })

-- if the account and its family have earlier claims in the year, the opening balance makes no difference
pub begun_alike : (own family_year : Option Acc) (a b : Acc) → (is_some own && is_some family_year) ≡ true → started a own family_year ≡ started b own family_year
begun_alike None family_year a b h = absurd (both_ways false refl h)
begun_alike (Some x) None a b h = absurd (both_ways false refl h)
begun_alike (Some x) (Some y) a b h = refl
