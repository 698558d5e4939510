-- In a valid journal, the outcome that the index has for a claim is the journal's decision on the claim.
use Rattle.std.proofs.Common.{inl, inr, ◌≡◌, ◌≢◌, ◌<◌, ◌≤◌, ◌+◌, ◌==◌, ℕ, zero, suc, true, false, cond, List, [], ◌∷◌, ◌++◌, length, get_or, Some, option_and_then, ap, sym, subst, ◌∙◌, refl, zero-add, arith}
use Rattle.std.specs.List.{slice_get}
use Rattle.std.proofs.lemmas.Bool.{cases_Bool, cases_lt}
use Rattle.std.proofs.lemmas.Bool.Decides.{nat_tests}
use Rattle.std.proofs.lemmas.List.{get_or_append_left, get_or_push, length_push}
use Rattle.std.proofs.lemmas.List.Concat.{flat_map-cons}
use Rattle.journal.specs.Events.{Filed, accept_in, accepts, place_in, places}
use Rattle.journal.specs.Lawful.{numbers_below}
use Rattle.journal.specs.declared.event.Event.{Event}
use Rattle.journal.specs.declared.event.Event.TheVariants.{Accept, End, Close, Take, Decide}
use Rattle.remit_records.specs.Decided.{decided_as, decision_at, position_from, position_of}
use Rattle.remit_records.specs.Looked.{LaidOut, found_of, positions_from, positions_of}
use Rattle.remit_records.specs.declared.decisions.Decisions.{Decisions}

-- the places of a provider's claims among accepted claims
abbrev places_among : ℕ → List Filed → List ℕ
places_among provider [] = []
places_among provider (f ∷ fs) = cond (f.provider == provider) (f.place ∷ places_among provider fs) (places_among provider fs)

-- a provider's accepted places are its places among the accepted claims
places-of : (J : List Event) (provider : ℕ) → places J provider ≡ places_among provider (accepts J)
places-of [] provider = refl
places-of (Accept p i ∷ J) provider =
    let front = flat_map-cons (place_in provider) (Accept p i) J in
    let filed : accepts (Accept p i ∷ J) ≡ record { provider = p; place = i } ∷ accepts J = flat_map-cons accept_in (Accept p i) J in
    let step : place_in provider (Accept p i) ++ places J provider ≡ places_among provider (record { provider = p; place = i } ∷ accepts J) =
    elim (cases_Bool (p == provider)) [
      | inl same ↦ rw same (ap (λ ps. i ∷ ps) (places-of J provider))
      | inr other ↦ rw other (places-of J provider)
    ] in
    front ∙ step ∙ sym (ap (places_among provider) filed)
places-of (End p ∷ J) provider =
    flat_map-cons (place_in provider) (End p) J ∙ places-of J provider ∙ sym (ap (places_among provider) (flat_map-cons accept_in (End p) J))
places-of (Close ∷ J) provider =
    flat_map-cons (place_in provider) Close J ∙ places-of J provider ∙ sym (ap (places_among provider) (flat_map-cons accept_in Close J))
places-of (Take k ∷ J) provider =
    flat_map-cons (place_in provider) (Take k) J ∙ places-of J provider ∙ sym (ap (places_among provider) (flat_map-cons accept_in (Take k) J))
places-of (Decide k o ∷ J) provider =
    flat_map-cons (place_in provider) (Decide k o) J ∙ places-of J provider ∙ sym (ap (places_among provider) (flat_map-cons accept_in (Decide k o) J))

-- the places are consecutive, and `first` is the first of them
abbrev FromOn : ℕ → List ℕ → Type 0
FromOn first ps = (j : ℕ) (d : ℕ) → j < length ps → get_or ps j d ≡ first + j

-- a number equals itself
same-number : (n : ℕ) → (n == n) ≡ true
same-number n = grind (arith, nat_tests)

other-number : (m n : ℕ) → m ≢ n → (m == n) ≡ false
other-number m n apart = grind (arith, nat_tests)

-- the first claim is the one that is searched for
here : (first : ℕ) (f : Filed) (fs : List Filed) (provider place : ℕ) → (f.provider == provider) ≡ true → f.place ≡ place
    → position_from first (f ∷ fs) provider place ≡ Some first
here first f fs provider place same is =
    let found : (f.place == place) ≡ true = ap (λ n. n == place) is ∙ same-number place in
    rw (same, found) refl

-- the first claim is another claim of the provider
following-it : (first : ℕ) (f : Filed) (fs : List Filed) (provider place : ℕ) → (f.provider == provider) ≡ true → f.place ≢ place
    → position_from first (f ∷ fs) provider place ≡ position_from (suc first) fs provider place
following-it first f fs provider place same apart = rw (same, other-number f.place place apart) refl

-- the first claim is another provider's
not-its : (first : ℕ) (f : Filed) (fs : List Filed) (provider place : ℕ) → (f.provider == provider) ≡ false
    → position_from first (f ∷ fs) provider place ≡ position_from (suc first) fs provider place
not-its first f fs provider place other = rw other refl

-- the index of a provider's claim among the provider's positions is its place, counted from `place`
abbrev AreFound : List Filed → ℕ → ℕ → ℕ → Type 0
AreFound fs first place provider = (i : ℕ) → FromOn place (places_among provider fs) → slice_get (positions_from first fs provider) i ≡ position_from first fs provider (place + i)

-- the first claim is the provider's
found-first : (f : Filed) (fs : List Filed) (first place provider i : ℕ) → (f.provider == provider) ≡ true → FromOn place (f.place ∷ places_among provider fs)
    → AreFound fs (suc first) (suc place) provider
    → slice_get (first ∷ positions_from (suc first) fs provider) i ≡ position_from first (f ∷ fs) provider (place + i)
found-first f fs first place provider zero same order following =
    let at_place : f.place ≡ place + 0 = order 0 0 (omega arith) in
    sym (here first f fs provider (place + 0) same at_place)
found-first f fs first place provider (suc i) same order following =
    let at_place : f.place ≡ place + 0 = order 0 0 (omega arith) in
    let apart : f.place ≢ place + suc i = λ e. omega (arith, e, at_place) in
    let others : FromOn (suc place) (places_among provider fs) =
    λ j d within.
    let shifted : place + suc j ≡ suc place + j = omega arith in
    order (suc j) d (omega (arith, within)) ∙ shifted in
    let next : suc place + i ≡ place + suc i = omega arith in
    rw next at (following i others) ∙ sym (following-it first f fs provider (place + suc i) same apart)

-- if a provider's claims are accepted in the order of their places, the claim at a place is the one at this index among their positions
found-in-order : (fs : List Filed) (first place provider : ℕ) → AreFound fs first place provider
found-in-order [] first place provider i order = refl
found-in-order (f ∷ fs) first place provider i order = elim (cases_Bool (f.provider == provider)) [
  | inl same ↦
      let listed : positions_from first (f ∷ fs) provider ≡ first ∷ positions_from (suc first) fs provider = rw same refl in
      ap (λ ps. slice_get ps i) listed
      ∙ found-first f fs first place provider i same (rw same at order) (found-in-order fs (suc first) (suc place) provider)
  | inr other ↦
      let listed : positions_from first (f ∷ fs) provider ≡ positions_from (suc first) fs provider = rw other refl in
      ap (λ ps. slice_get ps i) listed ∙ found-in-order fs (suc first) place provider i (rw other at order)
      ∙ sym (not-its first f fs provider (place + i) other)
]

-- the first n numbers are consecutive from 0
counted-long : (n : ℕ) → length (numbers_below n) ≡ n
counted-long zero = refl
counted-long (suc n) =
    let before = counted-long n in
    let longer = length_push (numbers_below n) n in
    omega (arith, before, longer)

counted-in-order : (n : ℕ) → FromOn 0 (numbers_below n)
counted-in-order zero j d within = absurd (omega (arith, within))
counted-in-order (suc n) j d within =
    let long = counted-long n in
    let longer = length_push (numbers_below n) n in
    elim (cases_lt j n) [
      | inl inside ↦ get_or_append_left (numbers_below n) (n ∷ []) d j (omega (arith, inside, long)) ∙ counted-in-order n j d (omega (arith, inside, long))
      | inr last ↦
          let at_end : length (numbers_below n) ≡ j = omega (arith, within, last, long, longer) in
          let end : n ≡ 0 + j = omega (arith, at_end, long) in
          get_or_push (numbers_below n) n d j at_end ∙ end
    ]

-- if a provider's accepts are in order, a claim's place is the index of its position among the provider's positions
pub position-in-order : (J : List Event) (provider place : ℕ) → places J provider ≡ numbers_below (length (places J provider))
    → slice_get (positions_of J provider) place ≡ position_of J provider place
position-in-order J provider place order =
    let in_order : FromOn 0 (places_among provider (accepts J)) =
    subst (FromOn 0) (sym order ∙ places-of J provider) (counted-in-order (length (places J provider))) in
    found-in-order (accepts J) 0 0 provider place in_order ∙ ap (position_from 0 (accepts J) provider) (zero-add place)

-- the outcome that the index has for a claim is the journal's decision on the claim
pub looked-right : (version : ℕ) (providers : ℕ) (J : List Event) (decisions : Decisions) → LaidOut version providers J decisions
    → ((provider : ℕ) → places J provider ≡ numbers_below (length (places J provider))) → (provider place : ℕ) → 1 ≤ provider → provider ≤ providers
    → found_of decisions provider place ≡ decided_as J provider place
looked-right version providers J decisions laid order zero place least most = absurd (omega (arith, least))
looked-right version providers J decisions laid order (suc i) place least most =
    laid.found i place (omega (arith, most)) ∙ ap (option_and_then (decision_at J)) (position-in-order J (suc i) place (order (suc i)))
