-- After each call the indexes of a gate agree with its journal, and the call is one that `journal` defines.
use Rattle.std.proofs.Common.{◌≡◌, ◌≢◌, ℕ, zero, suc, ◌<◌, ◌≤◌, ◌+◌, Bool, true, false, not, ◌&&◌, ◌||◌, cond, List, [], ◌∷◌, ◌++◌, take, length, get_or, replicate, fold, Option, Some, None, option_map, refl, sym, ap, ◌∙◌, subst, arith, add-zero, mul-zero}
use Rattle.std.specs.List.{count_by, list_all}
use Rattle.std.specs.Option.{option_map_or}
use Rattle.std.proofs.lemmas.Bool.{both_ways, cond_both}
use Rattle.std.proofs.lemmas.List.{length-replicate, get_or-replicate}
use Rattle.std.proofs.lemmas.List.Folds.{sum_by-replicate}
use Rattle.std.proofs.lemmas.List.Sums.{sum_by_push}
use Rattle.std.proofs.lemmas.Option.{none-some, slice_get_within}
use Rattle.claim_gate.specs.Terms.{TermsParts, IsTermsOf, ForTerms}
use Rattle.settlement.specs.declared.acc.Acc.{Acc}
use Rattle.settlement.specs.declared.claim.Claim.{Claim}
use Rattle.settlement.specs.declared.outcome.Outcome.{Outcome}
use Rattle.journal.specs.Places.{Place, is_decided, all_decided, phase_at, started, InTurn}
use Rattle.journal.specs.declared.ready_claim.ReadyClaim.{ReadyClaim}
use Rattle.journal.specs.declared.phase.Phase.{Phase}
use Rattle.journal.specs.declared.phase.Phase.TheVariants.{Waiting, Ready, InWork, Decided}
use Rattle.journal.specs.Calls.{next_phase, next_place, with_phase, with_decision, IsPicked, NothingReady}
use Rattle.settlement.specs.Accounts.{account_of, account_year, family_of}
use Rattle.settlement.specs.Opening.{opening}
use Rattle.intake_csv.specs.Balances.{accounts_of}
use Rattle.journal.specs.Terms.{Terms, claims_of}
use Rattle.journal.specs.Settled.{outcome_of, accumulated}
use Rattle.std.proofs.Common.{append-nil}
use Rattle.std.proofs.lemmas.List.Concat.{flat_map-append}
use Rattle.journal.specs.InOrder.{AreFirstInOrder, DueClaimStaysInOrder, IsDue}
use Rattle.journal.specs.Events.{accept_in, accepts, accepted_count, places, closed, is_close, has_take, has_decision, claim_filed, claims, claim_at, noted, before, reached, due, IsJob}
use Rattle.journal.specs.Lawful.{Lawful, closing}
use Rattle.journal.specs.Gate.{GateAt, OfferReply, EndReply, TakeReply, FinishReply, Offers, Ends, Takes, Finishes, is_any_decision}
use Rattle.journal.specs.Laws.{EmptyJournalIsLawful, OfferGoes, EndGoes, TakeGoes, FinishGoes}
use Rattle.journal.specs.declared.event.Event.{Event}
use Rattle.journal.specs.declared.event.Event.TheVariants.{Accept, End, Close, Take, Decide}
use Rattle.journal.specs.declared.order.Order.{Order}
use Rattle.journal.specs.declared.order.Order.TheVariants.{Any}
use Rattle.claim_gate.specs.declared.intakes.Intake.{Intake}
use Rattle.claim_gate.specs.Intakes.{no_intake, none_yet, intake_of, with_accept, with_end}
use Rattle.claim_gate.specs.GateIndex.{is_begun, AreMarked, ArePlacesOf, IsIntakeOf, AreIntakesOf, IsKept, is_due}
use Rattle.claim_gate.specs.Replies.{HasClaims, IsOver, first_journal}
use Rattle.claim_gate.proofs.Claims.{places_stay_claims, places_accept, places_take, own_leaves}
use Rattle.claim_gate.proofs.Decisions.{places_decision}
use Rattle.claim_gate.proofs.Journals.{any_stays, any_now, claims_more, claims_stay, accepted_more, or_none}
use Rattle.claim_gate.proofs.Marks.{marked_stay, marked_accept, marked_take, marked_decision, decisions_stay}
use Rattle.claim_gate.proofs.Providers.{intakes_stay, intakes_accept, intakes_end, known_intake, due_is}
use Rattle.claim_gate.proofs.Readiness.{has_place, ready_is_work, nothing_is_ready}

-- the gate with this journal, as journals see it
abbrev gate : Terms → List Event → Bool → GateAt
gate T J stopped = record { terms = T; journal = J; stopped = stopped }

-- the journal with the close appended, if it is due
abbrev pub closed_where : Bool → List Event → List Event
closed_where b J = cond b (J ++ Close ∷ []) J

closed_is : (b : Bool) (J : List Event) → closed J ≡ false → b ≡ closed (closed_where b J)
closed_is true J h = sym (any_now is_close J Close refl)
closed_is false J h = sym h

and_true : (b : Bool) → (b && true) ≡ b
and_true true = refl
and_true false = refl

closing_is : (T : Terms) (J : List Event) (b : Bool) → due T J ≡ b → closed J ≡ false → closing T J ≡ closed_where b J
closing_is T J b is open_yet =
    ap (λ c. cond (due T J && not c) (J ++ Close ∷ []) J) open_yet
    ∙ ap (λ c. cond c (J ++ Close ∷ []) J) (and_true (due T J) ∙ is)

-- the progress of the files and the entries agree with the journal
record IsTied (terms : TermsParts) (J : List Event) (lanes : List Place) (intakes : List Intake) : Type 0 where
  pub intakes_are : AreIntakesOf J (length terms.files) intakes
  pub marked : AreMarked J lanes
  pub places_are : ForTerms terms (λ T. ArePlacesOf T J lanes)

tied_where : (b : Bool) (terms : TermsParts) (J : List Event) (lanes : List Place) (intakes : List Intake) → IsTied terms J lanes intakes → IsTied terms (closed_where b J) lanes intakes
tied_where true terms J lanes intakes tied = record {
  intakes_are = intakes_stay J (length terms.files) intakes Close tied.intakes_are (λ p. refl) (λ p. refl) refl;
  marked = marked_stay J lanes Close tied.marked refl (λ k. refl) (λ k. refl) refl;
  places_are = λ T is. places_stay_claims T J (J ++ Close ∷ []) lanes (claims_stay T J Close refl) tied.marked.as_many (tied.places_are T is);
}
tied_where false terms J lanes intakes tied = tied

decisions_where : (b : Bool) (J : List Event) → count_by is_any_decision (closed_where b J) ≡ count_by is_any_decision J
decisions_where true J = decisions_stay J Close refl
decisions_where false J = refl

-- the claims that a journal accepts are the first ones in the order
abbrev IsInOrder : Order → Terms → List Event → Type 0
IsInOrder order T J = AreFirstInOrder order T.files (accepts J)

-- an event that accepts no claim keeps the order
order_same : (order : Order) (T : Terms) (J : List Event) (event : Event) → accept_in event ≡ [] → IsInOrder order T J → IsInOrder order T (J ++ event ∷ [])
order_same order T J event none ordered =
    let same : accepts (J ++ event ∷ []) ≡ accepts J =
    flat_map-append accept_in J (event ∷ []) ∙ ap (λ fs. accepts J ++ (fs ++ [])) none ∙ append-nil (accepts J) in
    subst (AreFirstInOrder order T.files) (sym same) ordered

order_where : (order : Order) (T : Terms) (b : Bool) (J : List Event) → IsInOrder order T J → IsInOrder order T (closed_where b J)
order_where order T true J ordered = order_same order T J Close refl ordered
order_where order T false J ordered = ordered

none_in_order : (order : Order) (T : Terms) → IsInOrder order T []
none_in_order order T n filed at = absurd (none-some filed at)

-- a new gate has at least one provider, and none has ended
none_ended : (n : ℕ) → 1 ≤ n → list_all (λ x. x.ended) (replicate n none_yet) ≡ false
none_ended zero h = let never : ⊥ = omega arith in absurd never
none_ended (suc n) h = refl

none_counted : (n : ℕ) → 0 ≡ count_by (λ x. x.ended) (replicate n none_yet)
none_counted n = sym (sum_by-replicate (λ (x : Intake). cond x.ended 1 0) n none_yet ∙ mul-zero n)

tied_start : (terms : TermsParts) → IsTied terms [] [] (replicate (length terms.files) none_yet)
tied_start terms =
    let none : (i : ℕ) → IsIntakeOf [] (suc i) none_yet = λ i. record { accepted_is = refl; ended_is = refl } in
    record {
      intakes_are = record {
        as_many = length-replicate (length terms.files) none_yet;
        each = λ i below. subst (IsIntakeOf [] (suc i)) (sym (get_or-replicate (length terms.files) i none_yet no_intake below)) (none i);
        ends = none_counted (length terms.files);
      };
      marked = record { as_many = refl; taken_are = λ k. refl; decided_are = λ k. refl; decisions = refl };
      places_are = λ T is k place there. absurd (none-some place there);
    }

module _ (terms : TermsParts) (starts : EmptyJournalIsLawful) (b : Bool) (files : 1 ≤ length terms.files)
    (when : b ≡ is_due terms 0 (replicate (length terms.files) none_yet)) where
  due_first : b ≡ reached terms.cutoff 0
  due_first =
      when
      ∙ ap (λ c. reached terms.cutoff 0 || c) (none_ended (length terms.files) files)
      ∙ or_none (reached terms.cutoff 0)

  pub first_is : closed_where b [] ≡ first_journal terms.cutoff
  first_is = ap (λ c. cond c (Close ∷ []) []) due_first

  pub kept_start : IsKept terms (closed_where b []) [] (replicate (length terms.files) none_yet) b 0
  kept_start =
      let tied = tied_where b terms [] [] (replicate (length terms.files) none_yet) (tied_start terms) in
      record {
        closed_is = closed_is b [] refl;
        decisions_are = sym (decisions_where b []);
        intakes_are = tied.intakes_are;
        marked = tied.marked;
        places_are = tied.places_are;
        lawful = λ T is.
            subst (Lawful T)
            (closing_is T [] b (due_is terms T [] (replicate (length terms.files) none_yet) is (tied_start terms).intakes_are ∙ sym when) refl)
            (starts T);
        ordered = λ asks T is. order_where terms.order T b [] (none_in_order terms.order T);
      }

work_by : (phase : Option Phase) → option_map_or is_begun phase false ≡ true → option_map_or is_decided phase false ≡ false → phase ≡ Some InWork
work_by None b d = absurd (both_ways false refl b)
work_by (Some (Waiting c)) b d = absurd (both_ways false refl b)
work_by (Some (Ready c)) b d = absurd (both_ways false refl b)
work_by (Some InWork) b d = refl
work_by (Some (Decided l)) b d = absurd (both_ways true d refl)

-- the entry of a claim that was taken and is not decided is in work
pub is_in_work : (J : List Event) (lanes : List Place) → AreMarked J lanes → (k : ℕ) → has_decision J k ≡ false → has_take J k ≡ true → phase_at lanes k ≡ Some InWork
is_in_work J lanes marked k once taken = work_by (phase_at lanes k) (sym (marked.taken_are k) ∙ taken) (sym (marked.decided_are k) ∙ once)

-- the gate accepts a claim
module _ (terms : TermsParts) (J : List Event) (stopped : Bool) (lanes : List Place) (intakes : List Intake) (is_closed : Bool) (decisions : ℕ)
    (kept : IsKept terms J lanes intakes is_closed decisions) where
  module _ (goes : OfferGoes) (stays : DueClaimStaysInOrder) (provider place : ℕ) (claim : Claim) (year : ℕ) (b : Bool)
      (runs : stopped ≡ false) (open_yet : closed J ≡ false)
      (filed : ForTerms terms (λ T. claim_filed T (record { provider = provider; place = place }) ≡ Some claim))
      (in_turn : ForTerms terms (λ T. place ≡ length (places J provider)))
      (is_next : terms.order ≢ Any → ForTerms terms (λ T. IsDue terms.order T J (record { provider = provider; place = place })))
      (dated : year ≡ account_year terms.plan claim)
      (when : b ≡ is_due terms (length (lanes ++ next_place lanes claim year ∷ [])) (with_accept intakes provider)) where
    abbrev accepted_in : List Event
    accepted_in = J ++ Accept provider place ∷ []

    abbrev lanes_after : List Place
    lanes_after = lanes ++ next_place lanes claim year ∷ []

    not_begun : is_begun (next_phase lanes claim) ≡ false
    not_begun =
        cond_both (all_decided (family_of claim) lanes) (Ready claim) (Waiting claim)
        (λ phase. is_begun phase ≡ false) (λ h. refl) (λ h. refl)

    undecided : is_decided (next_phase lanes claim) ≡ false
    undecided =
        cond_both (all_decided (family_of claim) lanes) (Ready claim) (Waiting claim)
        (λ phase. is_decided phase ≡ false) (λ h. refl) (λ h. refl)

    tied_accept : IsTied terms accepted_in lanes_after (with_accept intakes provider)
    tied_accept = record {
      intakes_are = intakes_accept J (length terms.files) intakes kept.intakes_are provider place;
      marked = marked_accept J lanes provider place (next_place lanes claim year) kept.marked not_begun undecided;
      places_are = λ T is.
          places_accept T J accepted_in lanes claim year
          (claims_more T J (Accept provider place) ∙ ap (λ c. claims T J ++ c ∷ []) (filed T is)) kept.marked.as_many (kept.places_are T is)
          (dated ∙ ap (λ p. account_year p claim) (sym is.plan));
    }

    open_after : closed accepted_in ≡ false
    open_after = any_stays is_close J (Accept provider place) refl ∙ open_yet

    due_after : (T : Terms) → IsTermsOf terms T → due T accepted_in ≡ b
    due_after T is =
        due_is terms T accepted_in (with_accept intakes provider) is tied_accept.intakes_are
        ∙ ap (λ n. is_due terms n (with_accept intakes provider)) (sym tied_accept.marked.as_many)
        ∙ sym when

    pub offer_accepted : (T : Terms) → IsTermsOf terms T
        → Offers (gate T J stopped) provider place (OfferReply.Accepted (length lanes)) (gate T (closed_where b accepted_in) stopped)
    offer_accepted T is =
        ((runs, open_yet), in_turn T is, kept.marked.as_many, ap (λ K. gate T K stopped) (sym (closing_is T accepted_in b (due_after T is) open_after)))

    pub kept_accept : IsKept terms (closed_where b accepted_in) lanes_after (with_accept intakes provider) b decisions
    kept_accept =
        let tied = tied_where b terms accepted_in lanes_after (with_accept intakes provider) tied_accept in
        record {
          closed_is = closed_is b accepted_in open_after;
          decisions_are = kept.decisions_are ∙ sym (decisions_where b accepted_in ∙ decisions_stay J (Accept provider place) refl);
          intakes_are = tied.intakes_are;
          marked = tied.marked;
          places_are = tied.places_are;
          lawful = λ T is.
              (goes (gate T J stopped) (gate T (closed_where b accepted_in) stopped) provider place (OfferReply.Accepted (length lanes))
              (kept.lawful T is) (slice_get_within (claims_of T provider) place claim (filed T is)) (offer_accepted T is)).lawful;
          ordered = λ asks T is.
              order_where terms.order T b accepted_in
              (stays terms.order T J (record { provider = provider; place = place }) asks (kept.ordered asks T is) (is_next asks T is)
              (record { open_yet = open_yet; place_is = in_turn T is; there = slice_get_within (claims_of T provider) place claim (filed T is) }));
        }

  -- a provider ends
  module _ (goes : EndGoes) (provider count : ℕ) (b : Bool)
      (runs : stopped ≡ false) (open_yet : closed J ≡ false)
      (known : ForTerms terms (λ T. HasClaims T provider count))
      (whole : ForTerms terms (λ T. count ≤ length (places J provider)))
      (once : (intake_of intakes provider).ended ≡ false)
      (when : b ≡ is_due terms (length lanes) (with_end intakes provider)) where
    abbrev ended_in : List Event
    ended_in = J ++ End provider ∷ []

    tied_end : IsTied terms ended_in lanes (with_end intakes provider)
    tied_end = record {
      intakes_are = intakes_end J (length terms.files) intakes kept.intakes_are provider once;
      marked = marked_stay J lanes (End provider) kept.marked refl (λ k. refl) (λ k. refl) refl;
      places_are = λ T is. places_stay_claims T J ended_in lanes (claims_stay T J (End provider) refl) kept.marked.as_many (kept.places_are T is);
    }

    open_at_end : closed ended_in ≡ false
    open_at_end = any_stays is_close J (End provider) refl ∙ open_yet

    due_at_end : (T : Terms) → IsTermsOf terms T → due T ended_in ≡ b
    due_at_end T is =
        due_is terms T ended_in (with_end intakes provider) is tied_end.intakes_are
        ∙ ap (λ n. is_due terms n (with_end intakes provider)) (sym tied_end.marked.as_many)
        ∙ sym when

    pub end_ended : (T : Terms) → IsTermsOf terms T → Ends (gate T J stopped) provider count EndReply.Ended (gate T (closed_where b ended_in) stopped)
    end_ended T is =
        let intake = known_intake terms T J intakes provider is kept.intakes_are (known T is).known in
        ((runs, open_yet), whole T is, sym intake.ended_is ∙ once, ap (λ K. gate T K stopped) (sym (closing_is T ended_in b (due_at_end T is) open_at_end)))

    pub kept_end : IsKept terms (closed_where b ended_in) lanes (with_end intakes provider) b decisions
    kept_end =
        let tied = tied_where b terms ended_in lanes (with_end intakes provider) tied_end in
        record {
          closed_is = closed_is b ended_in open_at_end;
          decisions_are = kept.decisions_are ∙ sym (decisions_where b ended_in ∙ decisions_stay J (End provider) refl);
          intakes_are = tied.intakes_are;
          marked = tied.marked;
          places_are = tied.places_are;
          lawful = λ T is.
              (goes (gate T J stopped) (gate T (closed_where b ended_in) stopped) provider EndReply.Ended (kept.lawful T is) (known T is).known
              (subst (λ n. Ends (gate T J stopped) provider n EndReply.Ended (gate T (closed_where b ended_in) stopped)) (known T is).count_is (end_ended T is))).lawful;
          ordered = λ asks T is. order_where terms.order T b ended_in (order_same terms.order T J (End provider) refl (kept.ordered asks T is));
        }

  -- the entries agree with the journal after an event that changes no claim
  places_still : (T : Terms) (event : Event) → claims T (J ++ event ∷ []) ≡ claims T J → ArePlacesOf T J lanes → ArePlacesOf T (J ++ event ∷ []) lanes
  places_still T event same are = places_stay_claims T J (J ++ event ∷ []) lanes same kept.marked.as_many are

  -- a claim is taken
  module _ (goes : TakeGoes) (picked : ReadyClaim) (acc : Acc) (turns : InTurn (with_phase lanes picked.position InWork)) (runs : stopped ≡ false) (not_over : ¬ IsOver J)
      (is_picked : IsPicked lanes picked) (begins : acc ≡ started (opening (accounts_of terms.balances) (account_of terms.plan picked.claim)) picked.own picked.family_year) where
    abbrev k : ℕ
    k = picked.position

    begins_so : (T : Terms) → IsTermsOf terms T → acc ≡ started (opening T.balances (account_of T.plan picked.claim)) picked.own picked.family_year
    begins_so T is =
        begins
        ∙ ap (λ p. started (opening (accounts_of terms.balances) (account_of p picked.claim)) picked.own picked.family_year) (sym is.plan)
        ∙ ap (λ a. started a picked.own picked.family_year) (sym (is.openings (account_of T.plan picked.claim)))

    pub take_work : (T : Terms) → IsTermsOf terms T → Takes (gate T J stopped) (TakeReply.Work picked.position picked.claim acc) (gate T (J ++ Take picked.position ∷ []) stopped)
    take_work T is = (
      runs,
      λ F. not_over (record { closed = F.closed; all = F.all }),
      ready_is_work T J lanes kept.marked (kept.places_are T is) stopped picked acc turns is_picked (begins_so T is),
      refl,
    )

    ready_there : phase_at lanes k ≡ Some (Ready picked.claim)
    ready_there = ap (option_map (λ (p : Place). p.phase)) is_picked.there ∙ ap Some is_picked.ready

    pub kept_take : IsKept terms (J ++ Take picked.position ∷ []) (with_phase lanes picked.position InWork) intakes is_closed decisions
    kept_take = record {
      closed_is = kept.closed_is ∙ sym (any_stays is_close J (Take k) refl);
      decisions_are = kept.decisions_are ∙ sym (decisions_stay J (Take k) refl);
      intakes_are = intakes_stay J (length terms.files) intakes (Take k) kept.intakes_are (λ p. refl) (λ p. refl) refl;
      marked = marked_take J lanes k (Ready picked.claim) kept.marked ready_there refl refl;
      places_are = λ T is. places_take T (J ++ Take k ∷ []) lanes k (places_still T (Take k) (claims_stay T J (Take k) refl) (kept.places_are T is));
      lawful = λ T is.
          (goes (gate T J stopped) (gate T (J ++ Take k ∷ []) stopped) (TakeReply.Work k picked.claim acc) (kept.lawful T is) (take_work T is)).lawful;
      ordered = λ asks T is. order_same terms.order T J (Take k) refl (kept.ordered asks T is);
    }

  pub take_over : (T : Terms) → IsTermsOf terms T → stopped ≡ false → IsOver J → Takes (gate T J stopped) TakeReply.Over (gate T J stopped)
  take_over T is runs over = (runs, record { lawful = kept.lawful T is; closed = over.closed; all = over.all }, refl)

  pub take_nothing : (T : Terms) → IsTermsOf terms T → InTurn lanes → stopped ≡ false → ¬ IsOver J → NothingReady lanes → Takes (gate T J stopped) TakeReply.NothingReady (gate T J stopped)
  take_nothing T is turns runs not_over none =
      (runs, λ F. not_over (record { closed = F.closed; all = F.all }), nothing_is_ready T J lanes kept.marked (kept.places_are T is) turns none, refl)

  -- a claim is decided
  module _ (goes : FinishGoes) (k : ℕ) (claim : Claim) (acc left : Acc) (outcome : Outcome) (runs : stopped ≡ false)
      (once : has_decision J k ≡ false) (in_work : has_take J k ≡ true)
      (job : ForTerms terms (λ T. IsJob T J k claim acc))
      (settled : outcome ≡ outcome_of terms.plan claim acc) (leaves : left ≡ accumulated true true acc outcome) where
    works : phase_at lanes k ≡ Some InWork
    works = is_in_work J lanes kept.marked k once in_work

    pub finish_recorded : (T : Terms) → Finishes (gate T J stopped) k outcome FinishReply.Recorded (gate T (J ++ Decide k outcome ∷ []) stopped)
    finish_recorded T = (runs, once, refl)

    abbrev decided_in : List Event
    decided_in = J ++ Decide k outcome ∷ []

    decided_places : (T : Terms) → IsTermsOf terms T → ArePlacesOf T decided_in (with_decision lanes k left)
    decided_places T is =
        let same : claims T decided_in ≡ claims T J = claims_stay T J (Decide k outcome) refl in
        let many : length lanes ≡ accepted_count decided_in = kept.marked.as_many ∙ sym (accepted_more J (Decide k outcome) ∙ add-zero (accepted_count J)) in
        let p = has_place lanes k InWork works in
        let here : k < length lanes = slice_get_within lanes k p.place p.there in
        let located : claim_at T decided_in k ≡ Some claim = ap (λ cs. get_or cs k None) same ∙ (job T is).located in
        let account = account_of T.plan claim in
        let at : acc ≡ before T decided_in k account =
        (job T is).left ∙ ap (λ cs. fold (noted T.plan) (opening T.balances) (take k cs) account) (sym same) in
        let leaves_so : left ≡ before T decided_in (suc k) account =
        leaves
        ∙ ap (accumulated true true acc) (settled ∙ ap (λ p. outcome_of p claim acc) (sym is.plan))
        ∙ ap (λ a. accumulated true true a (outcome_of T.plan claim a)) at
        ∙ sym (own_leaves T decided_in k claim located (omega arith)) in
        places_decision T decided_in lanes (places_still T (Decide k outcome) same (kept.places_are T is)) k claim left located leaves_so

    pub kept_decision : IsKept terms decided_in (with_decision lanes k left) intakes is_closed (decisions + 1)
    kept_decision = record {
      closed_is = kept.closed_is ∙ sym (any_stays is_close J (Decide k outcome) refl);
      decisions_are = ap (λ n. n + 1) kept.decisions_are ∙ sym (sum_by_push (λ e. cond (is_any_decision e) 1 0) J (Decide k outcome));
      intakes_are = intakes_stay J (length terms.files) intakes (Decide k outcome) kept.intakes_are (λ p. refl) (λ p. refl) refl;
      marked = marked_decision J lanes k outcome left kept.marked works;
      places_are = decided_places;
      lawful = λ T is.
          (goes (gate T J stopped) (gate T decided_in stopped) k claim acc outcome FinishReply.Recorded (kept.lawful T is)
          (record { in_work = in_work; job = job T is; settled = settled ∙ ap (λ p. outcome_of p claim acc) (sym is.plan) }) (finish_recorded T)).lawful;
      ordered = λ asks T is. order_same terms.order T J (Decide k outcome) refl (kept.ordered asks T is);
    }
