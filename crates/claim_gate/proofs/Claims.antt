-- After each event the entries are those of the claims at their positions.
use Rattle.std.proofs.Common.{◌≡◌, ℕ, zero, suc, ◌<◌, ◌≤◌, ℤ, pos, ◌+ℤ◌, ◌==◌, Bool, true, false, not, ◌||◌, ◌&&◌, List, [], ◌∷◌, ◌++◌, take, length, get_or, Option, Some, None, ◌⊎◌, fold, refl, sym, ap, ◌∙◌, subst, inl, inr, arith, add-one, append-nil, eqb-true}
use Rattle.std.specs.List.{slice_get}
use Rattle.std.specs.Str.{bytes_eq}
use Rattle.std.proofs.Math.Seq.{get_or-append_seam}
use Rattle.std.proofs.lemmas.Bool.{both_ways, and_from, and_parts, cond_both, eq-eqb}
use Rattle.std.proofs.lemmas.Int.{ints}
use Rattle.std.proofs.lemmas.List.{get_or_append_left, take-append-le}
use Rattle.std.proofs.lemmas.List.Folds.{list_all_more}
use Rattle.std.proofs.lemmas.List.Sums.{fold_more}
use Rattle.std.proofs.lemmas.Option.{none-some, same_Some, slice_get-get_or, slice_get_within}
use Rattle.std.proofs.lemmas.Slice.Eq.{bytes_eq-Decides}
use Rattle.tables.specs.Plan.{PlanParts}
use Rattle.settlement.specs.Accounts.{Account, account_of, account_year, family_of, grown, is_family_year, is_same, part}
use Rattle.settlement.specs.declared.acc.Acc.{Acc}
use Rattle.settlement.specs.declared.account.Balance.{Balance}
use Rattle.settlement.specs.declared.claim.Claim.{Claim}
use Rattle.settlement.specs.declared.outcome.Outcome.{Outcome}
use Rattle.journal.specs.Places.{Place, is_of, is_decided, merge_acc, left_in, left_by, present, all_decided}
use Rattle.journal.specs.declared.phase.Phase.{Phase}
use Rattle.journal.specs.declared.phase.Phase.TheVariants.{Waiting, Ready, InWork, Decided}
use Rattle.journal.specs.Calls.{next_place, with_phase}
use Rattle.settlement.specs.Opening.{opening}
use Rattle.journal.specs.Terms.{Terms}
use Rattle.journal.specs.Settled.{outcome_of, accumulated}
use Rattle.journal.specs.Events.{Book, noted, accepted_count, claims, claim_at, before}
use Rattle.journal.specs.declared.event.Event.{Event}
use Rattle.claim_gate.specs.GateIndex.{IsPhaseOf, IsPlaceAt, ArePlacesOf}
use Rattle.claim_gate.proofs.Journals.{length-claims}

-- an element of a list with one element appended is an earlier one or the new one
pub pushed : {A : Type 0} (xs : List A) (x y : A) (i : ℕ) → slice_get (xs ++ x ∷ []) i ≡ Some y → (slice_get xs i ≡ Some y) ⊎ ((i ≡ length xs) × (x ≡ y))
pushed [] x y zero h = inr (refl, same_Some x y h)
pushed [] x y (suc i) h = absurd (none-some y h)
pushed (z ∷ xs) x y zero h = inl h
pushed (z ∷ xs) x y (suc i) h =
    elim (pushed xs x y i h) [ inl earlier ↦ inl earlier | inr newest ↦ inr (ap suc newest.0, newest.1) ]

phase_along : (claim : Claim) (left left' : Acc) (phase : Phase) → left ≡ left' → IsPhaseOf claim left phase → IsPhaseOf claim left' phase
phase_along claim left left' (Waiting c) f h = h
phase_along claim left left' (Ready c) f h = h
phase_along claim left left' InWork f h = tt
phase_along claim left left' (Decided l) f h = h ∙ f

-- a longer journal has the claims of the shorter one, and more claims after them
module _ (T : Terms) (J K : List Event) (more : List (Option Claim)) (longer : claims T K ≡ claims T J ++ more) where
  pub before_stays : (k : ℕ) (account : Account) → k ≤ accepted_count J → before T K k account ≡ before T J k account
  before_stays k account within =
      ap (λ cs. fold (noted T.plan) (opening T.balances) (take k cs) account) longer
      ∙ ap (λ cs. fold (noted T.plan) (opening T.balances) cs account)
      (take-append-le k (claims T J) more (subst (λ n. k ≤ n) (sym (length-claims T J)) within))

  pub claim_stays : (k : ℕ) → k < accepted_count J → claim_at T K k ≡ claim_at T J k
  claim_stays k within =
      ap (λ cs. get_or cs k None) longer
      ∙ get_or_append_left (claims T J) more None k (subst (λ n. k < n) (sym (length-claims T J)) within)

  place_stays : (k : ℕ) (place : Place) → k < accepted_count J → IsPlaceAt T J k place → IsPlaceAt T K k place
  place_stays k place within is = record {
    claim = is.claim;
    located = claim_stays k within ∙ is.located;
    account = is.account;
    phase =
        phase_along is.claim (before T J (suc k) (account_of T.plan is.claim)) (before T K (suc k) (account_of T.plan is.claim)) place.phase
        (sym (before_stays (suc k) (account_of T.plan is.claim) (omega arith))) is.phase;
  }

-- the entries are also those of a journal with the same claims
pub places_stay_claims : (T : Terms) (J K : List Event) (lanes : List Place) → claims T K ≡ claims T J → length lanes ≡ accepted_count J
    → ArePlacesOf T J lanes → ArePlacesOf T K lanes
places_stay_claims T J K lanes same many are k place there =
    let within : k < length lanes = slice_get_within lanes k place there in
    place_stays T J K [] (same ∙ sym (append-nil (claims T J))) k place (omega arith) (are k place there)

-- these are the defaults where there is no entry
nobody : Account
nobody = record { family = []; member = []; year = 0 }

pub nowhere : Place
nowhere = record { account = nobody; phase = InWork }

plus_none : (x : ℤ) → x +ℤ pos 0 ≡ x
plus_none x = omega (arith, ints)

-- if an implication between two tests holds, and so does its premise, its conclusion holds
pub other_of : (b c : Bool) → (not b || c) ≡ true → b ≡ true → c ≡ true
other_of true c h is = h
other_of false c h is = absurd (both_ways false refl is)

left_is : (claim : Claim) (left other : Acc) (phase : Phase) → IsPhaseOf claim left phase → is_decided phase ≡ true → left_in phase other ≡ left
left_is claim left other (Waiting c) h is = absurd (both_ways false refl is)
left_is claim left other (Ready c) h is = absurd (both_ways false refl is)
left_is claim left other InWork h is = absurd (both_ways false refl is)
left_is claim left other (Decided l) h is = h

same_acc : (a b : Acc) → a.met ≡ b.met → a.oop ≡ b.oop → a.paid ≡ b.paid → a.fmet ≡ b.fmet → a.foop ≡ b.foop → a ≡ b
same_acc a b m o p f g = λ i. record { met = m i; oop = o i; paid = p i; fmet = f i; foop = g i }

-- a claim adds nothing to an account of another family or year, and only the family's sums to another member's account
none_grown : (o : Outcome) (acc : Acc) → accumulated false false acc o ≡ acc
unfolding accumulated
none_grown o acc = same_acc (grown false false acc o) acc (plus_none acc.met) (plus_none acc.oop) (plus_none acc.paid) (plus_none acc.fmet) (plus_none acc.foop)

own_stays : (o : Outcome) (acc : Acc) → ((accumulated false true acc o).met ≡ acc.met) × ((accumulated false true acc o).oop ≡ acc.oop) × ((accumulated false true acc o).paid ≡ acc.paid)
unfolding accumulated
own_stays o acc = (plus_none acc.met, plus_none acc.oop, plus_none acc.paid)

shared_grows : (one other shared : Bool) (a b : Acc) (o : Outcome) → a.fmet ≡ b.fmet → a.foop ≡ b.foop
    → ((accumulated one shared a o).fmet ≡ (accumulated other shared b o).fmet) × ((accumulated one shared a o).foop ≡ (accumulated other shared b o).foop)
unfolding accumulated
shared_grows one other shared a b o f g = (ap (λ x. x +ℤ part shared o.ded) f, ap (λ x. x +ℤ part shared o.share) g)

shared_noted : (plan : PlanParts) (book : Book) (c : Option Claim) → ((a b : Account) → a.family ≡ b.family → a.year ≡ b.year → ((book a).fmet ≡ (book b).fmet) × ((book a).foop ≡ (book b).foop))
    → (a b : Account) → a.family ≡ b.family → a.year ≡ b.year → ((noted plan book c a).fmet ≡ (noted plan book c b).fmet) × ((noted plan book c a).foop ≡ (noted plan book c b).foop)
shared_noted plan book None h a b f y = h a b f y
shared_noted plan book (Some c) h a b f y =
    let k = account_of plan c in
    let o = outcome_of plan c (book k) in
    let same : is_family_year k a ≡ is_family_year k b = (λ i. bytes_eq k.family (f i) && (k.year == y i)) in
    let old = h a b f y in
    let grows = shared_grows (is_same k a) (is_same k b) (is_family_year k b) (book a) (book b) o old.0 old.1 in (
      ap (λ s. (accumulated (is_same k a) s (book a) o).fmet) same ∙ grows.0,
      ap (λ s. (accumulated (is_same k a) s (book a) o).foop) same ∙ grows.1,
    )

shared_fold : (plan : PlanParts) (cs : List (Option Claim)) (book : Book) → ((a b : Account) → a.family ≡ b.family → a.year ≡ b.year → ((book a).fmet ≡ (book b).fmet) × ((book a).foop ≡ (book b).foop))
    → (a b : Account) → a.family ≡ b.family → a.year ≡ b.year → ((fold (noted plan) book cs a).fmet ≡ (fold (noted plan) book cs b).fmet) × ((fold (noted plan) book cs a).foop ≡ (fold (noted plan) book cs b).foop)
shared_fold plan [] book h = h
shared_fold plan (c ∷ cs) book h = shared_fold plan cs (noted plan book c) (shared_noted plan book c h)

shared_opening : (es : List (Account × Balance)) (a b : Account) → a.family ≡ b.family → a.year ≡ b.year → ((opening es a).fmet ≡ (opening es b).fmet) × ((opening es a).foop ≡ (opening es b).foop)
shared_opening [] a b f y = (refl, refl)
shared_opening (e ∷ es) a b f y =
    let old = shared_opening es a b f y in (
      λ i. old.0 i +ℤ part (bytes_eq e.0.family (f i) && (e.0.year == y i)) e.1.met,
      λ i. old.1 i +ℤ part (bytes_eq e.0.family (f i) && (e.0.year == y i)) e.1.oop,
    )

same_bytes : (bytes : List ℕ) → bytes_eq bytes bytes ≡ true
same_bytes bytes = (bytes_eq-Decides bytes bytes).1 refl

module _ (T : Terms) (J : List Event) where
  before_next : (k : ℕ) → k < accepted_count J → (a : Account) → before T J (suc k) a ≡ noted T.plan (before T J k) (claim_at T J k) a
  before_next k here a =
      let within : k < length (claims T J) = subst (λ n. k < n) (sym (length-claims T J)) here in
      ap (λ n. before T J n a) (sym (add-one k))
      ∙ ap (λ (b : Book). b a) (fold_more (noted T.plan) (opening T.balances) (claims T J) k None within)

  -- the claim at a position adds its outcome's amounts to each account, as far as they belong to it
  makes : (k : ℕ) (c : Claim) → k < accepted_count J → claim_at T J k ≡ Some c → (a : Account)
      → before T J (suc k) a
      ≡ accumulated (is_same (account_of T.plan c) a) (is_family_year (account_of T.plan c) a) (before T J k a) (outcome_of T.plan c (before T J k (account_of T.plan c)))
  makes k c here located a = before_next k here a ∙ ap (λ o. noted T.plan (before T J k) o a) located

  -- it adds all of them to its own account
  pub own_leaves : (k : ℕ) (c : Claim) → claim_at T J k ≡ Some c → k < accepted_count J
      → before T J (suc k) (account_of T.plan c)
      ≡ accumulated true true (before T J k (account_of T.plan c)) (outcome_of T.plan c (before T J k (account_of T.plan c)))
  own_leaves k c located here =
      let a = account_of T.plan c in
      let shared : is_family_year a a ≡ true = and_from (bytes_eq a.family a.family) (a.year == a.year) (same_bytes a.family) (eq-eqb a.year a.year refl) in
      let own : is_same a a ≡ true = and_from (is_family_year a a) (bytes_eq a.member a.member) shared (same_bytes a.member) in
      makes k c here located a ∙ (λ i. accumulated (own i) (shared i) (before T J k a) (outcome_of T.plan c (before T J k a)))

  module _ (places : List Place) (many : length places ≡ accepted_count J) (are : ArePlacesOf T J places) (account : Account) where
    same_account : (c : Account) → is_family_year c account ≡ true → bytes_eq c.member account.member ≡ true → c ≡ account
    same_account c h m =
        let parts = and_parts (bytes_eq c.family account.family) (c.year == account.year) h in
        let f : c.family ≡ account.family = (bytes_eq-Decides c.family account.family).0 parts.0 in
        let y : c.year ≡ account.year = eqb-true c.year account.year parts.1 in
        let n : c.member ≡ account.member = (bytes_eq-Decides c.member account.member).0 m in
        λ i. record { family = f i; member = n i; year = y i }

    -- the cases are an entry of another family or year, one of the account, and one of another member of the family
    step_by : (h m : Bool) (k : ℕ) (place : Place) (is : IsPlaceAt T J k place) → k < accepted_count J
        → is_family_year (account_of T.plan is.claim) account ≡ h → bytes_eq (account_of T.plan is.claim).member account.member ≡ m
        → (h ≡ true → is_decided place.phase ≡ true)
        → merge_acc (h && m) h (left_in place.phase (before T J k account)) (before T J k account) ≡ before T J (suc k) account
    step_by false m k place is here family_year same decided =
        let c = account_of T.plan is.claim in
        let acc = before T J k account in
        let o = outcome_of T.plan is.claim (before T J k c) in
        sym (
        makes k is.claim here is.located account
        ∙ (λ i. accumulated (family_year i && bytes_eq c.member account.member) (family_year i) acc o)
        ∙ none_grown o acc
        )
    step_by true true k place is here family_year same decided =
        let c = account_of T.plan is.claim in
        let acc = before T J k account in
        left_is is.claim (before T J (suc k) c) acc place.phase is.phase (decided refl)
        ∙ ap (before T J (suc k)) (same_account c family_year same)
    step_by true false k place is here family_year same decided =
        let c = account_of T.plan is.claim in
        let acc = before T J k account in
        let o = outcome_of T.plan is.claim (before T J k c) in
        let made : before T J (suc k) account ≡ accumulated false true acc o =
        makes k is.claim here is.located account ∙ (λ i. accumulated (family_year i && same i) (family_year i) acc o) in
        let own = own_stays o acc in
        let left = left_is is.claim (before T J (suc k) c) acc place.phase is.phase (decided refl) in
        let parts = and_parts (bytes_eq c.family account.family) (c.year == account.year) family_year in
        let f = (bytes_eq-Decides c.family account.family).0 parts.0 in
        let y = eqb-true c.year account.year parts.1 in
        let family = shared_fold T.plan (take (suc k) (claims T J)) (opening T.balances) (shared_opening T.balances) c account f y in
        same_acc (merge_acc false true (left_in place.phase acc) acc) (before T J (suc k) account)
        (sym (ap (λ (a : Acc). a.met) made ∙ own.0))
        (sym (ap (λ (a : Acc). a.oop) made ∙ own.1))
        (sym (ap (λ (a : Acc). a.paid) made ∙ own.2))
        (ap (λ (a : Acc). a.fmet) left ∙ family.0)
        (ap (λ (a : Acc). a.foop) left ∙ family.1)

    -- an entry of the family and year is in the family's lane
    in_lane : (place : Place) (c : Account) → place.account ≡ c → is_family_year c account ≡ true → is_of account.family place ≡ true
    in_lane place c same family_year =
        ap (λ (a : Account). bytes_eq a.family account.family) same ∙ (and_parts (bytes_eq c.family account.family) (c.year == account.year) family_year).0

    pub comes_before : (n : ℕ) → n ≤ length places → all_decided account.family (take n places) ≡ true
        → present account (opening T.balances account) (take n places) ≡ before T J n account
    comes_before zero within h = refl
    comes_before (suc n) within h =
        let here : n < length places = omega arith in
        let place : Place = get_or places n nowhere in
        let is : IsPlaceAt T J n place = are n place (slice_get-get_or places n nowhere here) in
        let c = account_of T.plan is.claim in
        let parts = and_parts (all_decided account.family (take n places)) (not (is_of account.family place) || is_decided place.phase)
        (sym (list_all_more (λ p. not (is_of account.family p) || is_decided p.phase) places n nowhere here) ∙ ap (λ k. all_decided account.family (take k places)) (add-one n) ∙ h) in
        ap (λ k. present account (opening T.balances account) (take k places)) (sym (add-one n))
        ∙ fold_more (left_by account) (opening T.balances account) places n nowhere here
        ∙ ap (λ acc. left_by account acc place) (comes_before n (omega arith) parts.0)
        ∙ ap (λ (a : Account). merge_acc (is_same a account) (is_family_year a account) (left_in place.phase (before T J n account)) (before T J n account)) is.account
        ∙ step_by (is_family_year c account) (bytes_eq c.member account.member) n place is (omega arith) refl refl
        (λ family_year. other_of (is_of account.family place) (is_decided place.phase) parts.1 (in_lane place c is.account family_year))

module _ (T : Terms) (J K : List Event) (lanes : List Place) (claim : Claim) (year : ℕ) (longer : claims T K ≡ claims T J ++ Some claim ∷ [])
    (many : length lanes ≡ accepted_count J) (are : ArePlacesOf T J lanes) (dated : year ≡ account_year T.plan claim) where
  newest : IsPlaceAt T K (length lanes) (next_place lanes claim year)
  newest = record {
    claim = claim;
    located =
        ap (λ cs. get_or cs (length lanes) None) longer
        ∙ ap (λ n. get_or (claims T J ++ Some claim ∷ []) n None) (many ∙ sym (length-claims T J))
        ∙ get_or-append_seam (claims T J) (Some claim) [] None;
    account = λ i. record { family = family_of claim; member = claim.member; year = dated i };
    phase =
        cond_both (all_decided (family_of claim) lanes) (Ready claim) (Waiting claim)
        (IsPhaseOf claim (before T K (suc (length lanes)) (account_of T.plan claim)))
        (λ h. refl) (λ h. refl);
  }

  -- the entries with that of the accepted claim agree with the journal
  pub places_accept : ArePlacesOf T K (lanes ++ next_place lanes claim year ∷ [])
  places_accept k place there =
      elim (pushed lanes (next_place lanes claim year) place k there) [
        | inl earlier ↦
            let within : k < length lanes = slice_get_within lanes k place earlier in
            place_stays T J K (Some claim ∷ []) longer k place (omega arith) (are k place earlier)
        | inr last ↦
            subst (IsPlaceAt T K k) last.1 (subst (λ j. IsPlaceAt T K j (next_place lanes claim year)) (sym last.0) newest)
      ]

-- an entry is still that of its claim when the claim is taken
in_work : (T : Terms) (J : List Event) (k : ℕ) (old : Place) → IsPlaceAt T J k old → IsPlaceAt T J k (record old { phase = InWork })
in_work T J k old is = record { claim = is.claim; located = is.located; account = is.account; phase = tt }

with_phase_is : (lanes : List Place) (k : ℕ) (phase : Phase) (j : ℕ) (place : Place) → slice_get (with_phase lanes k phase) j ≡ Some place
    → (slice_get lanes j ≡ Some place) ⊎ ((old : Place) × (slice_get lanes j ≡ Some old) × (place ≡ record old { phase = phase }))
with_phase_is [] k phase j place h = absurd (none-some place h)
with_phase_is (x ∷ lanes) zero phase zero place h = inr (x, refl, sym (same_Some (record x { phase = phase }) place h))
with_phase_is (x ∷ lanes) zero phase (suc j) place h = inl h
with_phase_is (x ∷ lanes) (suc k) phase zero place h = inl h
with_phase_is (x ∷ lanes) (suc k) phase (suc j) place h = with_phase_is lanes k phase j place h

-- the entries agree with the journal after a claim is taken
pub places_take : (T : Terms) (J : List Event) (lanes : List Place) (k : ℕ) → ArePlacesOf T J lanes → ArePlacesOf T J (with_phase lanes k InWork)
places_take T J lanes k are j place there =
    elim (with_phase_is lanes k InWork j place there) [
      | inl same ↦ are j place same
      | inr other ↦ subst (IsPlaceAt T J j) (sym other.2) (in_work T J j other.0 (are j other.0 other.1))
    ]
