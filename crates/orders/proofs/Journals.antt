-- For all terms there is a finished journal that accepts claims in a given order. It is made event
-- by event: the claims are accepted, the providers end, and each claim is taken and decided.
use Rattle.std.proofs.Common.{◌≡◌, ◌<◌, ◌≤◌, ◌+◌, ◌==◌, ◌||◌, ◌&&◌, ◌⊎◌, ℕ, zero, suc, min, Bool, true, false, not, cond, List, [], ◌∷◌, ◌++◌, map, take, length, get_or, slice_get, Option, Some, None, option_map, refl, sym, ap, ◌∙◌, subst, inl, inr, arith, append-nil, eq-eqb, ne_eqb}
use Rattle.std.specs.List.{list_any}
use Rattle.std.proofs.lemmas.Bool.{both_ways, cases_Bool, cases_eq, cases_lt, cond-false, cond-true, false_from_ne_true, or_left, or_right}
use Rattle.std.proofs.lemmas.List.{length_push, take_all}
use Rattle.std.proofs.lemmas.List.Concat.{flat_map-append}
use Rattle.std.proofs.lemmas.List.Folds.{list_any-append}
use Rattle.std.proofs.lemmas.Option.{get_or_from_slice_get, none-some, slice_get-get_or, slice_get-map}
use Rattle.settlement.specs.Accounts.{account_of}
use Rattle.settlement.specs.declared.claim.Claim.{Claim}
use Rattle.journal.specs.Terms.{Terms, all_claims, at_most, claims_in, claims_in_all, claims_of}
use Rattle.journal.specs.Settled.{outcome_of}
use Rattle.journal.specs.Events.{Filed, accept_in, accepted_count, accepts, all_ended, before, claim_at, claim_filed, claims, closed, due, has_decision, has_end, has_take, is_close, is_decide, is_end, is_take, places, reached}
use Rattle.journal.specs.InOrder.{AreFirstInOrder, IsNextInOrder, filed_count, following_claim}
use Rattle.journal.specs.Lawful.{Finished, Fits, IsNextClaim, IsNextDecision, IsNextEnd, IsReady, Lawful, closing}
use Rattle.journal.specs.declared.event.Event.{Event}
use Rattle.journal.specs.declared.event.Event.TheVariants.{Accept, End, Close, Take, Decide}
use Rattle.journal.specs.declared.order.Order.{Order}
use Rattle.journal.proofs.Counts.{accepted_by_provider, claims_by_provider, sum_to, sum_to-le}
use Rattle.journal.proofs.Finish.{closed_count, decided_taken}
use Rattle.journal.proofs.Grown.{list_any_stays}
use Rattle.journal.proofs.InOrder.{one_more, places_counted}
use Rattle.journal.proofs.LawfulMore.{lawful_more, lawful_start}
use Rattle.orders.specs.Existence.{FirstClaims, OrderedJournal}
use Rattle.orders.proofs.Existence.{next_there}

or-false : (b : Bool) → (b || false) ≡ b
or-false true = refl
or-false false = refl

-- the journal with the close, if it is appended, keeps what the close does not change
kept : {X : Type 0} (f : List Event → X) (T : Terms) (J : List Event) → f (J ++ Close ∷ []) ≡ f J → f (closing T J) ≡ f J
kept f T J same = elim (cases_Bool (due T J && not (closed J))) [
  | inl now ↦ ap f (cond-true (due T J && not (closed J)) (J ++ Close ∷ []) J now) ∙ same
  | inr other ↦ ap f (cond-false (due T J && not (closed J)) (J ++ Close ∷ []) J other)
]

accepts_kept : (T : Terms) (J : List Event) → accepts (closing T J) ≡ accepts J
accepts_kept T J = kept accepts T J (flat_map-append accept_in J (Close ∷ []) ∙ append-nil (accepts J))

test_kept : (test : Event → Bool) (T : Terms) (J : List Event) → test Close ≡ false → list_any test (closing T J) ≡ list_any test J
test_kept test T J none =
    kept (list_any test) T J
    (list_any-append test J (Close ∷ []) ∙ ap (λ b. list_any test J || (b || false)) none ∙ or-false (list_any test J))

-- an event that fails a test does not change whether one passes it
test_more : (test : Event → Bool) (J : List Event) (event : Event) → test event ≡ false → list_any test (J ++ event ∷ []) ≡ list_any test J
test_more test J event none =
    list_any-append test J (event ∷ []) ∙ ap (λ b. list_any test J || (b || false)) none ∙ or-false (list_any test J)

test_passed : (test : Event → Bool) (J : List Event) (event : Event) → test event ≡ true → list_any test (J ++ event ∷ []) ≡ true
test_passed test J event passes =
    list_any-append test J (event ∷ []) ∙ or_right (list_any test J) (test event || false) (or_left (test event) false passes)

open_from : (d c : Bool) → (d && not c) ≡ true → c ≡ false
open_from true true h = sym h
open_from true false h = refl
open_from false c h = absurd (both_ways false refl h)

-- a closed journal gets no second close
closed_kept : (T : Terms) (J : List Event) → closed J ≡ true → closing T J ≡ J
closed_kept T J is_closed = elim (cases_Bool (due T J && not (closed J))) [
  | inl now ↦ absurd (both_ways (closed J) (open_from (due T J) (closed J) now) is_closed)
  | inr other ↦ cond-false (due T J && not (closed J)) (J ++ Close ∷ []) J other
]

at_most-le : (cutoff : Option ℕ) (n : ℕ) → at_most cutoff n ≤ n
at_most-le None n = omega arith
at_most-le (Some cutoff) n = omega arith

-- as many claims are accepted as may be; if that is not the cutoff, it is all claims
all_unless_reached : (cutoff : Option ℕ) (n count : ℕ) → count ≡ at_most cutoff n → reached cutoff count ≡ false → count ≡ n
all_unless_reached None n count is none = is
all_unless_reached (Some cutoff) n count is none = elim (cases_eq count cutoff) [
  | inl same ↦ absurd (both_ways (count == cutoff) none (eq-eqb count cutoff same))
  | inr other ↦ omega (arith, is, other)
]

or_first : (x y : Bool) → (x || y) ≡ false → x ≡ false
or_first true y h = h
or_first false y h = refl

-- if no part is larger and the sums are equal, the parts are equal
equal_parts : (n : ℕ) (f g : ℕ → ℕ) → ((p : ℕ) → 1 ≤ p → p ≤ n → f p ≤ g p) → sum_to n g ≤ sum_to n f → (p : ℕ) → 1 ≤ p → p ≤ n → f p ≡ g p
equal_parts zero f g each sums p l m = absurd (omega (arith, l, m))
equal_parts (suc n) f g each sums p l m =
    let here : f (suc n) ≤ g (suc n) = each (suc n) (omega arith) (omega arith) in
    let rest : sum_to n f ≤ sum_to n g = sum_to-le n f g (λ q a b. each q a (omega (arith, b))) in
    elim (cases_eq p (suc n)) [
      | inl same ↦ subst (λ w. f w ≡ g w) (sym same) (let e : f (suc n) ≡ g (suc n) = omega (arith, here, rest, sums) in e)
      | inr other ↦ equal_parts n f g (λ q a b. each q a (omega (arith, b))) (omega (arith, here, rest, sums)) p l (omega (arith, m, other))
    ]

-- the first n providers have ended if each of them has
all_ended_from : (n : ℕ) (J : List Event) → ((p : ℕ) → 1 ≤ p → p ≤ n → has_end J p ≡ true) → all_ended n J ≡ true
all_ended_from zero J each = refl
all_ended_from (suc n) J each =
    ap (λ b. b && all_ended n J) (each (suc n) (omega arith) (omega arith)) ∙ all_ended_from n J (λ p l m. each p l (omega (arith, m)))

claim_there : (file : List Claim) (place : ℕ) → place < length file → (claim : Claim) × (slice_get file place ≡ Some claim)
claim_there [] place below = absurd (omega (arith, below))
claim_there (claim ∷ file) zero below = (claim, refl)
claim_there (claim ∷ file) (suc place) below = claim_there file place (omega (arith, below))

module _ (T : Terms) where
  -- a journal that has accepted exactly these claims, and nothing else
  record Accepted (claims : List Filed) : Type 0 where
    journal : List Event
    lawful : Lawful T journal
    accepted : accepts journal ≡ claims
    no_end : (p : ℕ) → has_end journal p ≡ false
    no_take : (k : ℕ) → has_take journal k ≡ false

  none_accepted : Accepted []
  none_accepted = record {
    journal = closing T [];
    lawful = lawful_start T;
    accepted = accepts_kept T [];
    no_end = λ p. test_kept (is_end p) T [] refl;
    no_take = λ k. test_kept (is_take k) T [] refl;
  }

  one_accepted : (order : Order) (claims : List Filed) (filed : Filed) → IsNextInOrder order T.files claims filed → length claims < at_most T.cutoff (all_claims T) → Accepted claims → Accepted (claims ++ filed ∷ [])
  one_accepted order claims filed next fewer A =
      let J = A.journal in
      let event = Accept filed.provider filed.place in
      let many : accepted_count J ≡ length claims = ap length A.accepted in
      let open_yet : closed J ≡ false =
      false_from_ne_true (closed J)
      (λ is_closed. let all : accepted_count J ≡ at_most T.cutoff (all_claims T) = closed_count T J A.lawful.sound is_closed in omega (arith, many, all, fewer)) in
      let place : filed.place ≡ length (places J filed.provider) =
      ap (λ (f : Filed). f.place) next.follows ∙ sym (ap length (places_counted J filed.provider) ∙ ap (filed_count filed.provider) A.accepted) in
      let fits : IsNextClaim T J filed.provider filed.place = record { open_yet = open_yet; place_is = place; there = next.there } in
      record {
        journal = closing T (J ++ event ∷ []);
        lawful = lawful_more T J event A.lawful fits;
        accepted = accepts_kept T (J ++ event ∷ []) ∙ flat_map-append accept_in J (event ∷ []) ∙ ap (λ w. w ++ filed ∷ []) A.accepted;
        no_end = λ p. test_kept (is_end p) T (J ++ event ∷ []) refl ∙ test_more (is_end p) J event refl ∙ A.no_end p;
        no_take = λ k. test_kept (is_take k) T (J ++ event ∷ []) refl ∙ test_more (is_take k) J event refl ∙ A.no_take k;
      }

  -- the first claims of an order, accepted
  record AcceptedFirst (order : Order) (count : ℕ) : Type 0 where
    first : FirstClaims order T.files count
    done : Accepted first.claims

  accepted_first : (order : Order) (count : ℕ) → count ≤ at_most T.cutoff (all_claims T) → AcceptedFirst order count
  accepted_first order zero within = record { first = record { claims = []; in_order = λ n filed at. absurd (none-some filed at); exactly = refl }; done = none_accepted }
  accepted_first order (suc count) within =
      let r = accepted_first order count (omega (arith, within)) in
      let h = r.first in
      let long = h.exactly in
      let most : at_most T.cutoff (all_claims T) ≤ claims_in_all T.files = at_most-le T.cutoff (all_claims T) in
      let next = next_there order T.files h.claims (omega (arith, within, long, most)) in
      record {
        first = record {
          claims = h.claims ++ next.0 ∷ [];
          in_order = one_more order T.files h.claims next.0 h.in_order next.1;
          exactly = length_push h.claims next.0 ∙ omega (arith, long);
        };
        done = one_accepted order h.claims next.0 next.1 (omega (arith, within, long)) r.done;
      }

  -- a journal that has accepted exactly these claims, and in which the first providers have ended
  record Ended (claims : List Filed) (m : ℕ) : Type 0 where
    journal : List Event
    lawful : Lawful T journal
    accepted : accepts journal ≡ claims
    ended : (p : ℕ) → 1 ≤ p → p ≤ m → has_end journal p ≡ true
    no_end : (p : ℕ) → m < p → has_end journal p ≡ false
    no_take : (k : ℕ) → has_take journal k ≡ false

  -- a closed journal that has accepted exactly these claims
  record Closed (claims : List Filed) : Type 0 where
    journal : List Event
    lawful : Lawful T journal
    accepted : accepts journal ≡ claims
    is_closed : closed journal ≡ true
    no_take : (k : ℕ) → has_take journal k ≡ false

  -- if a journal is not closed though as many claims as may be are accepted, all claims are accepted
  whole_if_open : (J : List Event) → Lawful T J → accepted_count J ≡ at_most T.cutoff (all_claims T) → closed J ≡ false → (p : ℕ) → 1 ≤ p → p ≤ length T.files → length (places J p) ≡ length (claims_of T p)
  whole_if_open J L many open_yet p l m =
      let not_due : due T J ≡ false =
      false_from_ne_true (due T J)
      (λ d. both_ways (closed J) open_yet (L.closed_when_due (length J) (ap (due T) (take_all (length J) J (omega arith)) ∙ d))) in
      let all : accepted_count J ≡ claims_in_all T.files =
      all_unless_reached T.cutoff (all_claims T) (accepted_count J) many (or_first (reached T.cutoff (accepted_count J)) (all_ended (length T.files) J) not_due) in
      let mine : accepted_count J ≡ sum_to (length T.files) (λ q. length (places J q)) = accepted_by_provider T J L.sound in
      let theirs : claims_in_all T.files ≡ sum_to (length T.files) (λ q. length (claims_in T.files q)) = claims_by_provider T.files in
      equal_parts (length T.files) (λ q. length (places J q)) (λ q. length (claims_in T.files q)) (λ q a b. L.sound.within q) (omega (arith, all, mine, theirs)) p l m

  -- the end of the next provider
  one_ended : (claims : List Filed) (m : ℕ) → length claims ≡ at_most T.cutoff (all_claims T) → m < length T.files → (E : Ended claims m) → closed E.journal ≡ false → Ended claims (suc m)
  one_ended claims m many below E open_yet =
      let J = E.journal in
      let event = End (suc m) in
      let whole = whole_if_open J E.lawful (ap length E.accepted ∙ many) open_yet (suc m) (omega arith) (omega (arith, below)) in
      let fits : IsNextEnd T J (suc m) = record {
        open_yet = open_yet;
        known = record { least = omega arith; most = omega (arith, below) };
        whole = whole;
        once = E.no_end (suc m) (omega arith);
      } in
      record {
        journal = closing T (J ++ event ∷ []);
        lawful = lawful_more T J event E.lawful fits;
        accepted = accepts_kept T (J ++ event ∷ []) ∙ flat_map-append accept_in J (event ∷ []) ∙ append-nil (accepts J) ∙ E.accepted;
        ended = λ p l n. test_kept (is_end p) T (J ++ event ∷ []) refl ∙ elim (cases_eq (suc m) p) [
          | inl same ↦ test_passed (is_end p) J event (eq-eqb (suc m) p same)
          | inr other ↦ list_any_stays (is_end p) J (event ∷ []) (E.ended p l (omega (arith, n, other)))
        ];
        no_end = λ p past.
            test_kept (is_end p) T (J ++ event ∷ []) refl
            ∙ test_more (is_end p) J event (ne_eqb (suc m) p (λ same. omega (arith, past, same)))
            ∙ E.no_end p (omega (arith, past));
        no_take = λ k. test_kept (is_take k) T (J ++ event ∷ []) refl ∙ test_more (is_take k) J event refl ∙ E.no_take k;
      }

  as_closed : (claims : List Filed) (m : ℕ) (E : Ended claims m) → closed E.journal ≡ true → Closed claims
  as_closed claims m E is_closed = record { journal = E.journal; lawful = E.lawful; accepted = E.accepted; is_closed = is_closed; no_take = E.no_take }

  -- the ends of the providers that are left, up to the close
  closed_by : (claims : List Filed) (left m : ℕ) → length claims ≡ at_most T.cutoff (all_claims T) → m + left ≡ length T.files → Ended claims m → Closed claims
  closed_by claims zero m many sum E = elim (cases_Bool (closed E.journal)) [
    | inl is_closed ↦ as_closed claims m E is_closed
    | inr open_yet ↦
        let J = E.journal in
        let ended : all_ended (length T.files) J ≡ true = all_ended_from (length T.files) J (λ p l n. E.ended p l (omega (arith, n, sum))) in
        let is_due : due T J ≡ true = or_right (reached T.cutoff (accepted_count J)) (all_ended (length T.files) J) ended in
        absurd (both_ways (closed J) open_yet (E.lawful.closed_when_due (length J) (ap (due T) (take_all (length J) J (omega arith)) ∙ is_due)))
  ]
  closed_by claims (suc left) m many sum E = elim (cases_Bool (closed E.journal)) [
    | inl is_closed ↦ as_closed claims m E is_closed
    | inr open_yet ↦ closed_by claims left (suc m) many (omega (arith, sum)) (one_ended claims m many (omega (arith, sum)) E open_yet)
  ]

  -- a closed journal in which the first claims are decided, and no other is taken
  record Decided (claims : List Filed) (k : ℕ) : Type 0 where
    journal : List Event
    lawful : Lawful T journal
    accepted : accepts journal ≡ claims
    is_closed : closed journal ≡ true
    decided : (j : ℕ) → j < k → has_decision journal j ≡ true
    no_take : (j : ℕ) → k ≤ j → has_take journal j ≡ false

  -- an event that follows the close
  lawful_late : (J : List Event) (event : Event) → closed J ≡ true → Lawful T J → Fits T J event → Lawful T (J ++ event ∷ [])
  lawful_late J event is_closed L fits =
      subst (Lawful T) (closed_kept T (J ++ event ∷ []) (list_any_stays is_close J (event ∷ []) is_closed)) (lawful_more T J event L fits)

  -- the decision of the next claim
  one_decided : (order : Order) (claims : List Filed) (k : ℕ) → AreFirstInOrder order T.files claims → k < length claims → Decided claims k → Decided claims (suc k)
  one_decided order first k in_order below D =
      let J = D.journal in
      let many : accepted_count J ≡ length first = ap length D.accepted in
      let d = following_claim [] 0 in
      let filed = get_or first k d in
      let at : slice_get first k ≡ Some filed = slice_get-get_or first k d below in
      let there = (in_order k filed at).there in
      let file = claims_of T filed.provider in
      let J1 = J ++ Take k ∷ [] in
      let closed1 : closed J1 ≡ true = list_any_stays is_close J (Take k ∷ []) D.is_closed in
      let ready : IsReady T J k = record { following = omega (arith, many, below); once = D.no_take k (omega arith); in_turn = λ j less lane. D.decided j less } in
      let L1 : Lawful T J1 = lawful_late J (Take k) D.is_closed D.lawful ready in
      let accepted1 : accepts J1 ≡ first = flat_map-append accept_in J (Take k ∷ []) ∙ append-nil (accepts J) ∙ D.accepted in
      let taken1 : has_take J1 k ≡ true = test_passed (is_take k) J (Take k) (eq-eqb k k refl) in
      let once1 : has_decision J1 k ≡ false =
      test_more (is_decide k) J (Take k) refl
      ∙ false_from_ne_true (has_decision J k) (λ h. both_ways (has_take J k) (D.no_take k (omega arith)) (decided_taken T J D.lawful.sound k h)) in
      let found = claim_there file filed.place there in
      let claim = found.0 in
      let located : claim_at T J1 k ≡ Some claim =
      get_or_from_slice_get (claims T J1) k (Some claim) None
      (slice_get-map (claim_filed T) (accepts J1) k ∙ ap (λ w. option_map (claim_filed T) (slice_get w k)) accepted1 ∙ ap (option_map (claim_filed T)) at ∙ ap Some found.1) in
      let decision = outcome_of T.plan claim (before T J1 k (account_of T.plan claim)) in
      let fits : IsNextDecision T J1 k decision = record { following = taken1; once = once1; settled = record { claim = claim; located = located; value = refl } } in
      let J2 = J1 ++ Decide k decision ∷ [] in
      record {
        journal = J2;
        lawful = lawful_late J1 (Decide k decision) closed1 L1 fits;
        accepted = flat_map-append accept_in J1 (Decide k decision ∷ []) ∙ append-nil (accepts J1) ∙ accepted1;
        is_closed = list_any_stays is_close J1 (Decide k decision ∷ []) closed1;
        decided = λ j less. elim (cases_eq k j) [
          | inl same ↦ test_passed (is_decide j) J1 (Decide k decision) (eq-eqb k j same)
          | inr other ↦ list_any_stays (is_decide j) J1 (Decide k decision ∷ []) (list_any_stays (is_decide j) J (Take k ∷ []) (D.decided j (omega (arith, less, other))))
        ];
        no_take = λ j past.
            test_more (is_take j) J1 (Decide k decision) refl
            ∙ test_more (is_take j) J (Take k) (ne_eqb k j (λ same. omega (arith, past, same)))
            ∙ D.no_take j (omega (arith, past));
      }

  decided_up_to : (order : Order) (claims : List Filed) (k : ℕ) → AreFirstInOrder order T.files claims → k ≤ length claims → Closed claims → Decided claims k
  decided_up_to order first zero in_order within C = record {
    journal = C.journal;
    lawful = C.lawful;
    accepted = C.accepted;
    is_closed = C.is_closed;
    decided = λ j less. absurd (omega (arith, less));
    no_take = λ j past. C.no_take j;
  }
  decided_up_to order first (suc k) in_order within C =
      one_decided order first k in_order (omega (arith, within)) (decided_up_to order first k in_order (omega (arith, within)) C)

  pub ordered_journal : (order : Order) → OrderedJournal order T
  ordered_journal order =
      let r = accepted_first order (at_most T.cutoff (all_claims T)) (omega arith) in
      let first = r.first.claims in
      let A = r.done in
      let E : Ended first 0 = record {
        journal = A.journal;
        lawful = A.lawful;
        accepted = A.accepted;
        ended = λ p l m. absurd (omega (arith, l, m));
        no_end = λ p past. A.no_end p;
        no_take = A.no_take;
      } in
      let C = closed_by first (length T.files) 0 r.first.exactly (omega arith) E in
      let D = decided_up_to order first (length first) r.first.in_order (omega arith) C in
      let many : accepted_count D.journal ≡ length first = ap length D.accepted in
      record {
        journal = D.journal;
        finished = record {
          lawful = D.lawful;
          closed = D.is_closed;
          all = λ position below. D.decided position (omega (arith, below, many));
        };
        in_order = subst (AreFirstInOrder order T.files) (sym D.accepted) r.first.in_order;
      }
