-- The claims of a family are decided one after another.
use Rattle.std.proofs.Common.{◌≡◌, ◌≢◌, ℕ, zero, suc, ◌<◌, ◌≤◌, ◌+◌, ◌==◌, Bool, true, false, ◌||◌, cond, List, [], ◌∷◌, ◌++◌, take, length, get_or, slice_get, Option, Some, None, flat_map, option_map, refl, sym, ap, ◌∙◌, subst, inl, inr, arith, append-nil, add-one, zero-add, eqb-true, eq-eqb}
use Rattle.std.specs.List.{list_any}
use Rattle.std.proofs.lemmas.Bool.{both_ways, or_cases, or_parts, or_left, or_right, cond-true, cond-false, cases_eq, false_from_ne_true}
use Rattle.std.proofs.lemmas.List.{take_more, take_all, flat_map_more}
use Rattle.std.proofs.lemmas.List.Folds.{list_any-append}
use Rattle.std.proofs.lemmas.Option.{slice_get-get_or, same_Some, none-some}
use Rattle.std.proofs.lemmas.Slice.Eq.{bytes_eq-Decides}
use Rattle.settlement.specs.declared.claim.Claim.{Claim}
use Rattle.settlement.specs.Accounts.{family_of}
use Rattle.journal.specs.Terms.{Terms}
use Rattle.journal.specs.Events.{At, claims, claim_at, lane_at, is_of, is_take, has_take, is_decide, has_decision, positions_in, positions}
use Rattle.journal.specs.Lawful.{Sound, Lawful}
use Rattle.journal.specs.Turns.{Step, TakeOf, DecisionOf, steps_in, steps, one_by_one, BeginsWith}
use Rattle.journal.specs.declared.event.Event.{Event}
use Rattle.journal.specs.declared.event.Event.TheVariants.{Accept, End, Close, Take, Decide}
use Rattle.journal.proofs.Fronts.{same_head, same_tail}
use Rattle.journal.proofs.Marks.{decision_located, take_located}

abbrev is_taken : ℕ → Step → Bool
is_taken k (TakeOf j) = j == k
is_taken k (DecisionOf j) = false

abbrev is_decided : ℕ → Step → Bool
is_decided k (TakeOf j) = false
is_decided k (DecisionOf j) = j == k

abbrev has : ℕ → List ℕ → Bool
has k ks = list_any (λ x. x == k) ks

-- the numbers increase, and none of them is below the bound
abbrev Rising : ℕ → List ℕ → Type 0
Rising n [] = Unit {0}
Rising n (k ∷ ks) = (n ≤ k) × Rising (suc k) ks

rising_lower : (n m : ℕ) (ks : List ℕ) → n ≤ m → Rising m ks → Rising n ks
rising_lower n m [] l r = tt
rising_lower n m (k ∷ ks) l r = (omega arith, r.1)

rising_least : (n k : ℕ) (ks : List ℕ) → Rising n ks → has k ks ≡ true → n ≤ k
rising_least n k [] r h = absurd (both_ways false refl h)
rising_least n k (b ∷ ks) r h =
    let low : n ≤ b = r.0 in
    elim (or_cases (b == k) (has k ks) h) [
      | inl here ↦ let e : b ≡ k = eqb-true b k here in omega arith
      | inr later ↦ let more : suc b ≤ k = rising_least (suc b) k ks r.1 later in omega arith
    ]

-- a number in an increasing list is its first one, or it is greater and is in the rest
above_first : (n b k : ℕ) (ks : List ℕ) → Rising n (b ∷ ks) → has k (b ∷ ks) ≡ true → b ≢ k → (b < k) × (has k ks ≡ true)
above_first n b k ks r h other =
    elim (or_cases (b == k) (has k ks) h) [
      | inl here ↦ absurd (other (eqb-true b k here))
      | inr later ↦ (rising_least (suc b) k ks r.1 later, later)
    ]

-- a step of the first claim is not a step of another claim
not_first : (k : ℕ) (b : ℕ) (s : Step) → TakeOf b ≡ s → is_taken k s ≡ false → b ≢ k
not_first k b s is fresh e = both_ways (is_taken k s) fresh (ap (is_taken k) (sym is) ∙ eq-eqb b k e)

-- two steps before lists of steps
after_two : (b : ℕ) (s t : Step) (xs ys r : List Step) → TakeOf b ≡ s → DecisionOf b ≡ t → ys ≡ xs ++ r → TakeOf b ∷ DecisionOf b ∷ ys ≡ s ∷ t ∷ (xs ++ r)
after_two b s t xs ys r p q h =
    ap (λ w. TakeOf b ∷ DecisionOf b ∷ w) h ∙ ap (λ w. w ∷ DecisionOf b ∷ (xs ++ r)) p ∙ ap (λ w. s ∷ w ∷ (xs ++ r)) q

-- the next take: the earlier claims are decided, and the claim is not taken
put_take : (ks : List ℕ) (S : List Step) (n k : ℕ) → Rising n ks → has k ks ≡ true
    → ((b : ℕ) → has b ks ≡ true → b < k → list_any (is_decided b) S ≡ true) → list_any (is_taken k) S ≡ false
    → BeginsWith S (one_by_one ks) → BeginsWith (S ++ TakeOf k ∷ []) (one_by_one ks)
put_take [] S n k rising h before fresh front = absurd (both_ways false refl h)
put_take (b ∷ ks) [] n k rising h before fresh front =
    elim (cases_eq b k) [
      | inl e ↦ record { rest = DecisionOf b ∷ one_by_one ks; is = ap (λ w. TakeOf w ∷ DecisionOf b ∷ one_by_one ks) e }
      | inr other ↦
          let next = above_first n b k ks rising h other in
          absurd (both_ways false refl (before b (or_left (b == b) (has b ks) (eq-eqb b b refl)) next.0))
    ]
put_take (b ∷ ks) (s ∷ []) n k rising h before fresh front =
    let is : TakeOf b ≡ s = same_head (TakeOf b) s (DecisionOf b ∷ one_by_one ks) front.rest front.is in
    let other : b ≢ k = not_first k b s is (or_parts (is_taken k s) false fresh).0 in
    let next = above_first n b k ks rising h other in
    elim (or_cases (is_decided b s) false (before b (or_left (b == b) (has b ks) (eq-eqb b b refl)) next.0)) [
      | inl here ↦ absurd (both_ways (is_decided b s) (ap (is_decided b) (sym is)) here)
      | inr none ↦ absurd (both_ways false refl none)
    ]
put_take (b ∷ ks) (s ∷ t ∷ S) n k rising h before fresh front =
    let is : TakeOf b ≡ s = same_head (TakeOf b) s (DecisionOf b ∷ one_by_one ks) (t ∷ (S ++ front.rest)) front.is in
    let two : DecisionOf b ∷ one_by_one ks ≡ t ∷ (S ++ front.rest) = same_tail (TakeOf b) s (DecisionOf b ∷ one_by_one ks) (t ∷ (S ++ front.rest)) front.is in
    let is_two : DecisionOf b ≡ t = same_head (DecisionOf b) t (one_by_one ks) (S ++ front.rest) two in
    let left : one_by_one ks ≡ S ++ front.rest = same_tail (DecisionOf b) t (one_by_one ks) (S ++ front.rest) two in
    let parts = or_parts (is_taken k s) (is_taken k t || list_any (is_taken k) S) fresh in
    let other : b ≢ k = not_first k b s is parts.0 in
    let next = above_first n b k ks rising h other in
    let later : (c : ℕ) → has c ks ≡ true → c < k → list_any (is_decided c) S ≡ true =
    λ c there below.
    elim (or_cases (is_decided c s) (is_decided c t || list_any (is_decided c) S) (before c (or_right (b == c) (has c ks) there) below)) [
      | inl here ↦ absurd (both_ways (is_decided c s) (ap (is_decided c) (sym is)) here)
      | inr more ↦
          elim (or_cases (is_decided c t) (list_any (is_decided c) S) more) [
            | inl here ↦
                let same : b ≡ c = eqb-true b c (ap (is_decided c) is_two ∙ here) in
                let above : suc b ≤ c = rising_least (suc b) c ks rising.1 there in
                let none : ⊥ = omega arith in
                absurd none
            | inr found ↦ found
          ]
    ] in
    let rest = put_take ks S (suc b) k rising.1 next.1 later (or_parts (is_taken k t) (list_any (is_taken k) S) parts.1).1 (record { rest = front.rest; is = left }) in
    record { rest = rest.rest; is = after_two b s t (S ++ TakeOf k ∷ []) (one_by_one ks) rest.rest is is_two rest.is }

-- the next decision: the claim is taken and not decided
put_decision : (ks : List ℕ) (S : List Step) (k : ℕ) → list_any (is_taken k) S ≡ true → list_any (is_decided k) S ≡ false
    → BeginsWith S (one_by_one ks) → BeginsWith (S ++ DecisionOf k ∷ []) (one_by_one ks)
put_decision ks [] k following fresh front = absurd (both_ways false refl following)
put_decision [] (s ∷ S) k following fresh front =
    let long : 0 ≡ suc (length (S ++ front.rest)) = ap length front.is in
    let none : ⊥ = omega arith in
    absurd none
put_decision (b ∷ ks) (s ∷ []) k following fresh front =
    let is : TakeOf b ≡ s = same_head (TakeOf b) s (DecisionOf b ∷ one_by_one ks) front.rest front.is in
    elim (or_cases (is_taken k s) false following) [
      | inl here ↦
          let same : b ≡ k = eqb-true b k (ap (is_taken k) is ∙ here) in
          record {
            rest = one_by_one ks;
            is = ap (λ w. w ∷ DecisionOf b ∷ one_by_one ks) is ∙ ap (λ w. s ∷ DecisionOf w ∷ one_by_one ks) same;
          }
      | inr none ↦ absurd (both_ways false refl none)
    ]
put_decision (b ∷ ks) (s ∷ t ∷ S) k following fresh front =
    let is : TakeOf b ≡ s = same_head (TakeOf b) s (DecisionOf b ∷ one_by_one ks) (t ∷ (S ++ front.rest)) front.is in
    let two : DecisionOf b ∷ one_by_one ks ≡ t ∷ (S ++ front.rest) = same_tail (TakeOf b) s (DecisionOf b ∷ one_by_one ks) (t ∷ (S ++ front.rest)) front.is in
    let is_two : DecisionOf b ≡ t = same_head (DecisionOf b) t (one_by_one ks) (S ++ front.rest) two in
    let left : one_by_one ks ≡ S ++ front.rest = same_tail (DecisionOf b) t (one_by_one ks) (S ++ front.rest) two in
    let parts = or_parts (is_decided k s) (is_decided k t || list_any (is_decided k) S) fresh in
    let more = or_parts (is_decided k t) (list_any (is_decided k) S) parts.1 in
    let other : b ≢ k = λ e. both_ways (is_decided k t) more.0 (ap (is_decided k) (sym is_two) ∙ eq-eqb b k e) in
    let taken_later : list_any (is_taken k) S ≡ true =
    elim (or_cases (is_taken k s) (is_taken k t || list_any (is_taken k) S) following) [
      | inl here ↦ absurd (other (eqb-true b k (ap (is_taken k) is ∙ here)))
      | inr later ↦
          elim (or_cases (is_taken k t) (list_any (is_taken k) S) later) [
            | inl here ↦ absurd (both_ways (is_taken k t) (ap (is_taken k) (sym is_two)) here)
            | inr found ↦ found
          ]
    ] in
    let rest = put_decision ks S k taken_later more.1 (record { rest = front.rest; is = left }) in
    record { rest = rest.rest; is = after_two b s t (S ++ DecisionOf k ∷ []) (one_by_one ks) rest.rest is is_two rest.is }

-- an element passes the test in one of the lists if and only if it does in their concatenation
flat_map-any : {X A : Type 0} (test : A → Bool) (f : X → List A) (xs : List X) (i : ℕ) (x : X) → slice_get xs i ≡ Some x → list_any test (f x) ≡ true → list_any test (flat_map f xs) ≡ true
flat_map-any test f [] i x at h = absurd (none-some x at)
flat_map-any test f (z ∷ xs) zero x at h =
    let same : z ≡ x = same_Some z x at in
    list_any-append test (f z) (flat_map f xs) ∙ or_left (list_any test (f z)) (list_any test (flat_map f xs)) (subst (λ w. list_any test (f w) ≡ true) (sym same) h)
flat_map-any test f (z ∷ xs) (suc i) x at h =
    list_any-append test (f z) (flat_map f xs) ∙ or_right (list_any test (f z)) (list_any test (flat_map f xs)) (flat_map-any test f xs i x at h)

any_in_flat_map : {X A : Type 0} (test : A → Bool) (f : X → List A) (xs : List X) → list_any test (flat_map f xs) ≡ true → list_any (λ x. list_any test (f x)) xs ≡ true
any_in_flat_map test f [] h = h
any_in_flat_map test f (z ∷ xs) h =
    elim (or_cases (list_any test (f z)) (list_any test (flat_map f xs)) (sym (list_any-append test (f z) (flat_map f xs)) ∙ h)) [
      | inl here ↦ or_left (list_any test (f z)) (list_any (λ x. list_any test (f x)) xs) here
      | inr later ↦ or_right (list_any test (f z)) (list_any (λ x. list_any test (f x)) xs) (any_in_flat_map test f xs later)
    ]

any_imp : {X : Type 0} (p q : X → Bool) (xs : List X) → ((x : X) → p x ≡ true → q x ≡ true) → list_any p xs ≡ true → list_any q xs ≡ true
any_imp p q [] imp h = h
any_imp p q (z ∷ xs) imp h =
    elim (or_cases (p z) (list_any p xs) h) [
      | inl here ↦ or_left (q z) (list_any q xs) (imp z here)
      | inr later ↦ or_right (q z) (list_any q xs) (any_imp p q xs imp later)
    ]

rise_by : (b : Bool) (n : ℕ) (ks : List ℕ) → Rising (suc n) ks → Rising n (cond b (n ∷ ks) ks)
rise_by true n ks r = (omega arith, r)
rise_by false n ks r = rising_lower n (suc n) ks (omega arith) r

positions_rise : (member : List ℕ) (n : ℕ) (cs : List (Option Claim)) → Rising n (positions_in member n cs)
positions_rise member n [] = tt
positions_rise member n (c ∷ cs) = rise_by (is_of member c) n (positions_in member (suc n) cs) (positions_rise member (suc n) cs)

has_by : (b : Bool) (n k : ℕ) (ks : List ℕ) → has k ks ≡ true → has k (cond b (n ∷ ks) ks) ≡ true
has_by true n k ks h = or_right (n == k) (has k ks) h
has_by false n k ks h = h

-- if the claim at k is one of the family, its position n + k is in the list of positions
positions_have : (member : List ℕ) (n k : ℕ) (cs : List (Option Claim)) → is_of member (get_or cs k None) ≡ true → has (n + k) (positions_in member n cs) ≡ true
positions_have member n k [] h = absurd (both_ways false refl h)
positions_have member n zero (c ∷ cs) h =
    let here : (n == n + 0) ≡ true = eq-eqb n (n + 0) (omega arith) in
    subst (λ w. has (n + 0) w ≡ true) (sym (cond-true (is_of member c) (n ∷ positions_in member (suc n) cs) (positions_in member (suc n) cs) h))
    (or_left (n == n + 0) (has (n + 0) (positions_in member (suc n) cs)) here)
positions_have member n (suc k) (c ∷ cs) h =
    let sum : suc n + k ≡ n + suc k = omega arith in
    has_by (is_of member c) n (n + suc k) (positions_in member (suc n) cs)
    (subst (λ w. has w (positions_in member (suc n) cs) ≡ true) sum (positions_have member (suc n) k cs h))

-- if the position n + k is in the list of positions, the claim at k is one of the family
positions_are : (member : List ℕ) (n k : ℕ) (cs : List (Option Claim)) → has (n + k) (positions_in member n cs) ≡ true → is_of member (get_or cs k None) ≡ true
positions_are member n k [] h = absurd (both_ways false refl h)
positions_are member n zero (c ∷ cs) h = go (is_of member c) refl where
  go : (b : Bool) → is_of member c ≡ b → is_of member c ≡ true
  go true e = e
  go false e =
      let there : has (n + 0) (positions_in member (suc n) cs) ≡ true =
      subst (λ w. has (n + 0) w ≡ true) (cond-false (is_of member c) (n ∷ positions_in member (suc n) cs) (positions_in member (suc n) cs) e) h in
      let low : suc n ≤ n + 0 = rising_least (suc n) (n + 0) (positions_in member (suc n) cs) (positions_rise member (suc n) cs) there in
      let none : ⊥ = omega arith in
      absurd none
positions_are member n (suc k) (c ∷ cs) h = positions_are member (suc n) k cs (moved (go (is_of member c) refl)) where
  moved : has (n + suc k) (positions_in member (suc n) cs) ≡ true → has (suc n + k) (positions_in member (suc n) cs) ≡ true
  moved there =
      let sum : n + suc k ≡ suc n + k = omega arith in
      subst (λ w. has w (positions_in member (suc n) cs) ≡ true) sum there

  go : (b : Bool) → is_of member c ≡ b → has (n + suc k) (positions_in member (suc n) cs) ≡ true
  go true e =
      let whole : has (n + suc k) (n ∷ positions_in member (suc n) cs) ≡ true =
      subst (λ w. has (n + suc k) w ≡ true) (cond-true (is_of member c) (n ∷ positions_in member (suc n) cs) (positions_in member (suc n) cs) e) h in
      elim (or_cases (n == n + suc k) (has (n + suc k) (positions_in member (suc n) cs)) whole) [
        | inl here ↦
            let same : n ≡ n + suc k = eqb-true n (n + suc k) here in
            let none : ⊥ = omega arith in
            absurd none
        | inr later ↦ later
      ]
  go false e = subst (λ w. has (n + suc k) w ≡ true) (cond-false (is_of member c) (n ∷ positions_in member (suc n) cs) (positions_in member (suc n) cs) e) h

member_is : (member : List ℕ) (o : Option Claim) → is_of member o ≡ true → option_map family_of o ≡ Some member
member_is member None h = absurd (both_ways false refl h)
member_is member (Some c) h = ap Some ((bytes_eq-Decides (family_of c) member).0 h)

any_cond : (b : Bool) (test : Step → Bool) (s : Step) → list_any test (cond b (s ∷ []) []) ≡ true → test s ≡ true
any_cond true test s h =
    elim (or_cases (test s) false h) [ inl here ↦ here | inr none ↦ absurd (both_ways false refl none) ]
any_cond false test s h = absurd (both_ways false refl h)

module _ (T : Terms) (J : List Event) (S : Sound T J) (member : List ℕ) where
  take_from : (k : ℕ) (event : Event) → list_any (is_taken k) (steps_in (claims T J) member event) ≡ true → is_take k event ≡ true
  take_from k (Take j) h = any_cond (is_of member (claim_at T J j)) (is_taken k) (TakeOf j) h
  take_from k (Decide j o) h = absurd (both_ways false refl (any_cond (is_of member (claim_at T J j)) (is_taken k) (DecisionOf j) h))
  take_from k (Accept p place) h = absurd (both_ways false refl h)
  take_from k (End p) h = absurd (both_ways false refl h)
  take_from k Close h = absurd (both_ways false refl h)

  decision_from : (k : ℕ) (event : Event) → list_any (is_decided k) (steps_in (claims T J) member event) ≡ true → is_decide k event ≡ true
  decision_from k (Decide j o) h = any_cond (is_of member (claim_at T J j)) (is_decided k) (DecisionOf j) h
  decision_from k (Take j) h = absurd (both_ways false refl (any_cond (is_of member (claim_at T J j)) (is_decided k) (TakeOf j) h))
  decision_from k (Accept p place) h = absurd (both_ways false refl h)
  decision_from k (End p) h = absurd (both_ways false refl h)
  decision_from k Close h = absurd (both_ways false refl h)

  -- the steps of a prefix of the journal
  abbrev so_far : ℕ → List Step
  so_far i = flat_map (steps_in (claims T J) member) (take i J)

  taken_step : (i k : ℕ) → is_of member (claim_at T J k) ≡ true → has_take (take i J) k ≡ true → list_any (is_taken k) (so_far i) ≡ true
  taken_step i k mine h =
      let s = take_located (take i J) k h in
      flat_map-any (is_taken k) (steps_in (claims T J) member) (take i J) s.index (Take k) s.at
      (ap (list_any (is_taken k)) (cond-true (is_of member (claim_at T J k)) (TakeOf k ∷ []) [] mine) ∙ or_left (k == k) false (eq-eqb k k refl))

  decided_step : (i k : ℕ) → is_of member (claim_at T J k) ≡ true → has_decision (take i J) k ≡ true → list_any (is_decided k) (so_far i) ≡ true
  decided_step i k mine h =
      let s = decision_located (take i J) k h in
      flat_map-any (is_decided k) (steps_in (claims T J) member) (take i J) s.index (Decide k s.decision) s.at
      (ap (list_any (is_decided k)) (cond-true (is_of member (claim_at T J k)) (DecisionOf k ∷ []) [] mine) ∙ or_left (k == k) false (eq-eqb k k refl))

  untaken_step : (i k : ℕ) → has_take (take i J) k ≡ false → list_any (is_taken k) (so_far i) ≡ false
  untaken_step i k once =
      false_from_ne_true (list_any (is_taken k) (so_far i))
      (λ h.
      both_ways (has_take (take i J) k) once
      (any_imp (λ e. list_any (is_taken k) (steps_in (claims T J) member e)) (is_take k) (take i J) (take_from k)
      (any_in_flat_map (is_taken k) (steps_in (claims T J) member) (take i J) h)))

  undecided_step : (i k : ℕ) → has_decision (take i J) k ≡ false → list_any (is_decided k) (so_far i) ≡ false
  undecided_step i k once =
      false_from_ne_true (list_any (is_decided k) (so_far i))
      (λ h.
      both_ways (has_decision (take i J) k) once
      (any_imp (λ e. list_any (is_decided k) (steps_in (claims T J) member e)) (is_decide k) (take i J) (decision_from k)
      (any_in_flat_map (is_decided k) (steps_in (claims T J) member) (take i J) h)))

  -- the case that the claim is one of the family
  take_mine : (i k : ℕ) → At J i (Take k) → is_of member (claim_at T J k) ≡ true → BeginsWith (so_far i) (one_by_one (positions T J member))
      → BeginsWith (so_far i ++ TakeOf k ∷ []) (one_by_one (positions T J member))
  take_mine i k at mine front =
      let t = S.takes i k at in
      let there : has k (positions T J member) ≡ true = subst (λ w. has w (positions T J member) ≡ true) (zero-add k) (positions_have member 0 k (claims T J) mine) in
      put_take (positions T J member) (so_far i) 0 k (positions_rise member 0 (claims T J)) there
      (λ b of_member below.
      let its : is_of member (claim_at T J b) ≡ true = positions_are member 0 b (claims T J) (subst (λ w. has w (positions T J member) ≡ true) (sym (zero-add b)) of_member) in
      let same : lane_at T J b ≡ lane_at T J k = member_is member (claim_at T J b) its ∙ sym (member_is member (claim_at T J k) mine) in
      decided_step i b its (t.in_turn b below same))
      (untaken_step i k t.once) front

  decision_mine : (i k : ℕ) (o : _) → At J i (Decide k o) → is_of member (claim_at T J k) ≡ true → BeginsWith (so_far i) (one_by_one (positions T J member))
      → BeginsWith (so_far i ++ DecisionOf k ∷ []) (one_by_one (positions T J member))
  decision_mine i k o at mine front =
      let d = S.decides i k o at in
      put_decision (positions T J member) (so_far i) k (taken_step i k mine d.following) (undecided_step i k d.once) front

  put_by : (i : ℕ) (b : Bool) (s : Step) → BeginsWith (so_far i) (one_by_one (positions T J member))
      → (b ≡ true → BeginsWith (so_far i ++ s ∷ []) (one_by_one (positions T J member))) → BeginsWith (so_far i ++ cond b (s ∷ []) []) (one_by_one (positions T J member))
  put_by i true s front mine = mine refl
  put_by i false s front mine = subst (λ w. BeginsWith w (one_by_one (positions T J member))) (sym (append-nil (so_far i))) front

  put : (i : ℕ) (event : Event) → At J i event → BeginsWith (so_far i) (one_by_one (positions T J member))
      → BeginsWith (so_far i ++ steps_in (claims T J) member event) (one_by_one (positions T J member))
  put i (Take k) at front = put_by i (is_of member (claim_at T J k)) (TakeOf k) front (λ mine. take_mine i k at mine front)
  put i (Decide k o) at front = put_by i (is_of member (claim_at T J k)) (DecisionOf k) front (λ mine. decision_mine i k o at mine front)
  put i (Accept p place) at front = subst (λ w. BeginsWith w (one_by_one (positions T J member))) (sym (append-nil (so_far i))) front
  put i (End p) at front = subst (λ w. BeginsWith w (one_by_one (positions T J member))) (sym (append-nil (so_far i))) front
  put i Close at front = subst (λ w. BeginsWith w (one_by_one (positions T J member))) (sym (append-nil (so_far i))) front

  turns : (i : ℕ) → i ≤ length J → BeginsWith (so_far i) (one_by_one (positions T J member))
  turns zero l = record { rest = one_by_one (positions T J member); is = refl }
  turns (suc i) l =
      let at : At J i (get_or J i Close) = slice_get-get_or J i Close (omega arith) in
      let more : take (suc i) J ≡ take i J ++ get_or J i Close ∷ [] = ap (λ w. take w J) (sym (add-one i)) ∙ take_more J i Close (omega arith) in
      let longer : so_far i ++ steps_in (claims T J) member (get_or J i Close) ≡ flat_map (steps_in (claims T J) member) (take i J ++ get_or J i Close ∷ []) =
      flat_map_more (steps_in (claims T J) member) [] (take i J) (get_or J i Close) in
      subst (λ w. BeginsWith w (one_by_one (positions T J member)))
      (longer ∙ ap (flat_map (steps_in (claims T J) member)) (sym more))
      (put i (get_or J i Close) at (turns i (omega arith)))

pub take_turns : (T : Terms) (J : List Event) (member : List ℕ) → Lawful T J → BeginsWith (steps T J member) (one_by_one (positions T J member))
take_turns T J member L =
    subst (λ w. BeginsWith (flat_map (steps_in (claims T J) member) w) (one_by_one (positions T J member))) (take_all (length J) J (omega arith))
    (turns T J L.sound member (length J) (omega arith))
