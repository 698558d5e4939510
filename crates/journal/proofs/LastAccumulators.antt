-- The links back to a claim's predecessors determine the accumulators before the claim.
use Rattle.std.proofs.Common.{◌≡◌, ◌<◌, ◌+◌, ◌&&◌, ◌||◌, ◌==◌, ℕ, zero, suc, Bool, true, false, not, cond, List, [], ◌∷◌, fold, get_or, length, map, take, Option, Some, None, refl, sym, ap, ◌∙◌, inl, inr, arith}
use Rattle.std.specs.List.{slice_get}
use Rattle.std.specs.Option.{option_map, unwrap_or}
use Rattle.std.specs.Str.{bytes_eq}
use Rattle.std.proofs.lemmas.Bool.{both_ways, and_parts, cases_eq, eq-eqb, ne_eqb}
use Rattle.std.proofs.lemmas.Option.{none-some, same_Some, slice_get-map}
use Rattle.settlement.specs.Accounts.{is_family_year, is_same}
use Rattle.settlement.specs.declared.acc.Acc.{Acc}
use Rattle.journal.specs.LastByKey.{AccumulatorKey, family_key, is_key}
use Rattle.journal.specs.Names.{AreDistinct}
use Rattle.journal.specs.Places.{Phase, Waiting, Ready, InWork, Decided, all_decided, is_decided, is_of, merge_acc, left_by, left_in, left_of, present, started}
use Rattle.journal.specs.FamilyQueues.{AreBacked, AreKnown, account_at, houses_of, keys_of, last_from, last_own, last_shared, left_at, left_of_slot, owns_of, place_of, places_of}
use Rattle.journal.specs.declared.slot.Slot.{Slot}
use Rattle.journal.proofs.Slots.{alike, apart, key-at}

-- names are equal if and only if their numbers are
same-name : (names : List (List ℕ)) (i j : ℕ) → AreDistinct names → i < length names → j < length names → bytes_eq (get_or names i []) (get_or names j []) ≡ (i == j)
same-name names i j distinct one two = elim (cases_eq i j) [
  | inl same ↦ alike names j i same ∙ sym (eq-eqb i j same)
  | inr other ↦ apart names j i distinct two one other ∙ sym (ne_eqb i j other)
]

and-same : (b : Bool) → b ≡ (b && b)
and-same true = refl
and-same false = refl

and-turned : (b c : Bool) → (b && c) ≡ (c && b)
and-turned true true = refl
and-turned true false = refl
and-turned false true = refl
and-turned false false = refl

and-moved : (f y m : Bool) → ((f && y) && m) ≡ ((f && m) && y)
and-moved true y m = and-turned y m
and-moved false y m = refl

module _ (names : List (List ℕ)) (distinct : AreDistinct names) (k q : AccumulatorKey) (kf : k.family < length names) (qf : q.family < length names) where
  -- two accounts are of one family and year if and only if their keys are
  same-family_year : is_family_year (account_at names k) (account_at names q) ≡ is_key (family_key k) (family_key q)
  same-family_year =
      ap (λ b. b && (k.year == q.year)) (same-name names k.family q.family distinct kf qf)
      ∙ ap (λ b. b && (k.year == q.year)) (and-same (k.family == q.family))

  -- two accounts are equal if and only if their keys are
  same-account : k.member < length names → q.member < length names → is_same (account_at names k) (account_at names q) ≡ is_key k q
  same-account km qm =
      (λ i. (same-name names k.family q.family distinct kf qf i && (k.year == q.year)) && same-name names k.member q.member distinct km qm i)
      ∙ and-moved (k.family == q.family) (k.year == q.year) (k.member == q.member)

-- the keys of one account have the same family and year
wider : (f m y : Bool) → ((f && m) && y) ≡ true → ((f && f) && y) ≡ true
wider true m y h = (and_parts m y h).1
wider false m y h = h

left-alike : (phase : Phase) (acc opening : Acc) → is_decided phase ≡ true → left_in phase acc ≡ unwrap_or (left_of phase) opening
left-alike (Waiting c) acc opening is = absurd (both_ways false refl is)
left-alike (Ready c) acc opening is = absurd (both_ways false refl is)
left-alike InWork acc opening is = absurd (both_ways false refl is)
left-alike (Decided l) acc opening is = refl

other-of : (b c : Bool) → (not b || c) ≡ true → b ≡ true → c ≡ true
other-of true c h is = h
other-of false c h is = absurd (both_ways false refl is)

-- the accumulators from the claims at two linked positions
abbrev by-links : List Slot → Acc → Option ℕ → Option ℕ → Acc
by-links slots opening own family_year = started opening (left_at slots own) (left_at slots family_year)

module _ (all : List Slot) (opening : Acc) where
  step-by : (s h : Bool) (n : ℕ) (slot : Slot) (own family_year : Option ℕ) (acc : Acc) → slice_get all n ≡ Some slot → acc ≡ by-links all opening own family_year
      → (s ≡ true → h ≡ true) → (h ≡ true → is_decided slot.phase ≡ true)
      → merge_acc s h (left_in slot.phase acc) acc ≡ by-links all opening (cond s (Some n) own) (cond h (Some n) family_year)
  step-by false false n slot own family_year acc there is wide decided = is
  step-by true false n slot own family_year acc there is wide decided = absurd (both_ways false refl (wide refl))
  step-by true true n slot own family_year acc there is wide decided =
      left-alike slot.phase acc opening (decided refl) ∙ ap (λ o. unwrap_or (left_of_slot o) opening) (sym there)
  step-by false true n slot own family_year acc there is wide decided =
      let left = left-alike slot.phase acc opening (decided refl) ∙ ap (λ o. unwrap_or (left_of_slot o) opening) (sym there) in
      λ i. record { met = (is i).met; oop = (is i).oop; paid = (is i).paid; fmet = (left i).fmet; foop = (left i).foop }

  module _ (names : List (List ℕ)) (distinct : AreDistinct names) (known : AreKnown (length names) (keys_of all)) (key : AccumulatorKey) (family : key.family < length names) (member : key.member < length names) where
    fold-back : (n : ℕ) (slots : List Slot) (own family_year : Option ℕ) (acc : Acc) → ((j : ℕ) (s : Slot) → slice_get slots j ≡ Some s → slice_get all (n + j) ≡ Some s)
        → acc ≡ by-links all opening own family_year → all_decided (get_or names key.family []) (places_of names slots) ≡ true
        → fold (left_by (account_at names key)) acc (places_of names slots)
        ≡ by-links all opening (last_from n (λ k. is_key k key) (keys_of slots) own) (last_from n (λ k. is_key (family_key k) (family_key key)) (keys_of slots) family_year)
    fold-back n [] own family_year acc at is settled = is
    fold-back n (s ∷ slots) own family_year acc at is settled =
        let here : slice_get all n ≡ Some s = (let e : n ≡ n + 0 = omega arith in ap (slice_get all) e) ∙ at 0 s refl in
        let in_keys = key-at all n s here in
        let f = known.family n s.key in_keys in
        let m = known.member n s.key in_keys in
        let same = same-account names distinct s.key key f family m member in
        let shared = same-family_year names distinct s.key key f family in
        let parts = and_parts (not (is_of (get_or names key.family []) (place_of names s)) || is_decided s.phase) (all_decided (get_or names key.family []) (places_of names slots)) settled in
        let decided : is_key (family_key s.key) (family_key key) ≡ true → is_decided s.phase ≡ true = λ h.
        other-of (is_of (get_or names key.family []) (place_of names s)) (is_decided s.phase) parts.0
        ((and_parts (bytes_eq (get_or names s.key.family []) (get_or names key.family [])) (s.key.year == key.year) (shared ∙ h)).0) in
        let step = step-by (is_key s.key key) (is_key (family_key s.key) (family_key key)) n s own family_year acc here is
        (wider (s.key.family == key.family) (s.key.member == key.member) (s.key.year == key.year)) decided in
        fold-back (n + 1) slots (cond (is_key s.key key) (Some n) own) (cond (is_key (family_key s.key) (family_key key)) (Some n) family_year)
        (left_by (account_at names key) acc (place_of names s))
        (λ j x there. (let e : n + 1 + j ≡ n + suc j = omega arith in ap (slice_get all) e) ∙ at (suc j) x there)
        ((λ i. merge_acc (same i) (shared i) (left_in s.phase acc) acc) ∙ step) parts.1

-- an item of a prefix is an item of the list
front-has : (k : ℕ) (slots : List Slot) (j : ℕ) (s : Slot) → slice_get (take k slots) j ≡ Some s → slice_get slots j ≡ Some s
front-has zero slots j s h = absurd (none-some s h)
front-has (suc k) [] j s h = h
front-has (suc k) (x ∷ slots) zero s h = h
front-has (suc k) (x ∷ slots) (suc j) s h = front-has k slots j s h

map-taken : {A B : Type 0} (f : A → B) (k : ℕ) (xs : List A) → map f (take k xs) ≡ take k (map f xs)
map-taken f zero xs = refl
map-taken f (suc k) [] = refl
map-taken f (suc k) (x ∷ xs) = ap (λ ys. f x ∷ ys) (map-taken f k xs)

-- the accumulators from the links of a slot are those of its account after the earlier claims
pub located : (names : List (List ℕ)) (slots : List Slot) (accounts family_years : AccumulatorKey → Option ℕ) (position : ℕ) (slot : Slot) (opening : Acc) → AreDistinct names
    → AreKnown (length names) (keys_of slots) → AreBacked (keys_of slots) (owns_of slots) (houses_of slots) accounts family_years
    → slice_get slots position ≡ Some slot → all_decided (get_or names slot.key.family []) (take position (places_of names slots)) ≡ true
    → started opening (left_at slots slot.own) (left_at slots slot.family_year) ≡ present (account_at names slot.key) opening (take position (places_of names slots))
located names slots accounts family_years position slot opening distinct known backed there settled =
    let key = slot.key in
    let in_keys = key-at slots position slot there in
    let keys = map-taken (λ (s : Slot). s.key) position slots in
    let places = map-taken (place_of names) position slots in
    let own : slot.own ≡ last_own key (keys_of (take position slots)) =
    same_Some slot.own (last_own key (take position (keys_of slots)))
    (sym (slice_get-map (λ (s : Slot). s.own) slots position ∙ ap (option_map (λ (s : Slot). s.own)) there) ∙ backed.own position key in_keys)
    ∙ ap (last_own key) (sym keys) in
    let family_year : slot.family_year ≡ last_shared key (keys_of (take position slots)) =
    same_Some slot.family_year (last_shared key (take position (keys_of slots)))
    (sym (slice_get-map (λ (s : Slot). s.family_year) slots position ∙ ap (option_map (λ (s : Slot). s.family_year)) there) ∙ backed.family_year position key in_keys)
    ∙ ap (last_shared key) (sym keys) in
    (λ i. by-links slots opening (own i) (family_year i))
    ∙ sym (fold-back slots opening names distinct known key (known.family position key in_keys) (known.member position key in_keys) 0 (take position slots) None None opening
    (λ j s at. (let e : 0 + j ≡ j = omega arith in ap (slice_get slots) e) ∙ front-has position slots j s at) refl
    (ap (all_decided (get_or names key.family [])) places ∙ settled))
    ∙ ap (present (account_at names key) opening) places
