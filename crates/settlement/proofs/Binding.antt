-- The slots of a plan's names are set to their values, one after another.
use Rattle.std.proofs.Common.{◌≡◌, ◌≢◌, ℕ, zero, suc, ◌+◌, ◌-◌, nat_eq, ◌<◌, ◌≤◌, inl, inr, Bool, true, false, cond, List, [], ◌∷◌, ◌++◌, map, length, set, take, get_or, filter, slice_get, Some, refl, sym, ap, subst, ◌∙◌, zero-add, arith}
use Rattle.std.specs.List.{All, range_with_len}
use Rattle.std.specs.Cmp.Lexicographic.{pointwise, same_text}
use Rattle.std.specs.Option.{option_map, option_and_then}
use Rattle.std.proofs.lemmas.Bool.{cases_eq}
use Rattle.std.proofs.lemmas.List.{length-map, map-set, set-get_or}
use Rattle.std.proofs.lemmas.List.Elements.{All-head, All-tail, filter_more}
use Rattle.std.proofs.lemmas.List.FromFn.{length-range_with_len, get_or-range_with_len}
use Rattle.std.proofs.lemmas.Option.{slice_get-map, slice_get_within, get_or_from_slice_get}
use Rattle.feel_tests.specs.declared.kind.Kind.{Kind}
use Rattle.feel_tests.specs.declared.value.Value.{Value}
use Rattle.feel_tests.specs.declared.value.Value.TheVariants.{Text}
use Rattle.feel_tests.specs.Value.{kind_of}
use Rattle.tables.specs.declared.inputs.Slot.{Slot}
use Rattle.tables.specs.declared.table.InputData.{InputData}
use Rattle.tables.specs.Inputs.{empty_slots, fill_slot, value_at, Takes}
use Rattle.tables.specs.Plan.{PlanParts, IsPlan}
use Rattle.settlement.specs.declared.acc.Acc.{Acc}
use Rattle.settlement.specs.declared.claim.Claim.{Claim}
use Rattle.settlement.specs.Bindings.{accumulator_values, values_from_member, slot_of, slot_kinds}
use Rattle.settlement.specs.Reads.{places_read, IsLaidOut}

set_same : {X : Type 0} (xs : List X) (i : ℕ) (y : X) → i < length xs → slice_get (set xs i y) i ≡ Some y
set_same [] i y below = absurd (omega (arith, below))
set_same (x ∷ xs) zero y below = refl
set_same (x ∷ xs) (suc i) y below = set_same xs i y (omega (arith, below))

set_other : {X : Type 0} (xs : List X) (i j : ℕ) (y : X) → j ≢ i → slice_get (set xs i y) j ≡ slice_get xs j
set_other [] i j y apart = refl
set_other (x ∷ xs) zero zero y apart = absurd (apart refl)
set_other (x ∷ xs) zero (suc j) y apart = refl
set_other (x ∷ xs) (suc i) zero y apart = refl
set_other (x ∷ xs) (suc i) (suc j) y apart = set_other xs i j y (λ e. apart (ap suc e))

kind_there :
    (given : List Slot) (values : List Value) (place : ℕ) (value : Value) → slot_kinds given ≡ map kind_of values → slice_get values place ≡ Some value
    → slice_get (slot_kinds given) place ≡ Some (kind_of value)
kind_there given values place value kinds found =
    ap (λ (ks : List Kind). slice_get ks place) kinds ∙ slice_get-map kind_of values place ∙ ap (option_map kind_of) found

within_slots :
    (given : List Slot) (values : List Value) (place : ℕ) (value : Value) → slot_kinds given ≡ map kind_of values → slice_get values place ≡ Some value
    → place < length given
within_slots given values place value kinds found =
    subst (λ n. place < n) (length-map given (λ (s : Slot). s.kind))
    (slice_get_within (slot_kinds given) place (kind_of value) (kind_there given values place value kinds found))

-- a slot takes a value of its kind
pub takes_given :
    (given : List Slot) (values : List Value) (place : ℕ) (value : Value) → slot_kinds given ≡ map kind_of values → slice_get values place ≡ Some value
    → Takes given place (kind_of value)
takes_given given values place value kinds found = sym (slice_get-map (λ (s : Slot). s.kind) given place) ∙ kind_there given values place value kinds found

-- the kinds of the slots do not change
pub kinds_stay :
    (given new : List Slot) (values : List Value) (place : ℕ) (value : Value) → slot_kinds given ≡ map kind_of values → slice_get values place ≡ Some value
    → new ≡ fill_slot given place value → slot_kinds new ≡ slot_kinds given
kinds_stay given new values place value kinds found made =
    let all = slot_kinds given in
    let kind = kind_of value in
    ap slot_kinds made ∙ map-set (λ (s : Slot). s.kind) given place (slot_of value)
    ∙ ap (set all place) (sym (get_or_from_slice_get all place kind kind (kind_there given values place value kinds found))) ∙ set-get_or all place kind

-- the slot has its value afterwards
pub value_located :
    (given new : List Slot) (values : List Value) (place : ℕ) (value : Value) → slot_kinds given ≡ map kind_of values → slice_get values place ≡ Some value
    → new ≡ fill_slot given place value → value_at new place ≡ slice_get values place
value_located given new values place value kinds found made =
    let there = set_same given place (slot_of value) (within_slots given values place value kinds found) in
    ap (λ (slots : List Slot). value_at slots place) made ∙ ap (option_and_then (λ (s : Slot). s.value)) there ∙ sym found

-- every other slot that had its value still has it
pub value_stays :
    (given new : List Slot) (values : List Value) (place : ℕ) (value : Value) → slot_kinds given ≡ map kind_of values → slice_get values place ≡ Some value
    → new ≡ fill_slot given place value → (other : ℕ) → value_at given other ≡ slice_get values other → value_at new other ≡ slice_get values other
value_stays given new values place value kinds found made other stood =
    elim (cases_eq other place) [
      | inl same ↦ subst (λ n. value_at new n ≡ slice_get values n) (sym same) (value_located given new values place value kinds found made)
      | inr apart ↦
          let still = set_other given place other (slot_of value) apart in
          ap (λ (slots : List Slot). value_at slots other) made ∙ ap (option_and_then (λ (s : Slot). s.value)) still ∙ stood
    ]

-- the empty slots of names have the kinds of the names
empty_kinds : (names : List InputData) → slot_kinds (empty_slots names) ≡ map (λ (d : InputData). d.kind) names
empty_kinds [] = refl
empty_kinds (d ∷ names) = ap (◌∷◌ d.kind) (empty_kinds names)

tail_kept : (P : ℕ → Type 0) (x : ℕ) (rest : List ℕ) (b : Bool) → All P (cond b (x ∷ rest) rest) → All P rest
tail_kept P x rest true all = All-tail P x rest all
tail_kept P x rest false all = all

-- a property of all numbers that pass the test holds for one that passes
pub at_each :
    (test : ℕ → Bool) (P : ℕ → Type 0) (from n k : ℕ) → All P (filter test (range_with_len from n)) → from ≤ k → k < from + n → test k ≡ true → P k
at_each test P from zero k all low high passes = absurd (omega (arith, low, high))
at_each test P from (suc n) k all low high passes =
    let rest = filter test (range_with_len (from + 1) n) in
    elim (cases_eq k from) [
      | inl same ↦ subst P (sym same) (All-head P from rest (subst (λ b. All P (cond b (from ∷ rest) rest)) (ap test (sym same) ∙ passes) all))
      | inr apart ↦ at_each test P (from + 1) n k (tail_kept P from rest (test from) all) (omega (arith, low, apart)) (omega (arith, high)) passes
    ]

-- the numbers that pass the test, in a range that is one longer
pub one_more :
    (test : ℕ → Bool) (n i : ℕ) (passes : Bool) → i < n → test i ≡ passes
    → filter test (take (i + 1) (range_with_len 0 n)) ≡ filter test (take i (range_with_len 0 n)) ++ cond passes (i ∷ []) []
one_more test n i passes below is =
    let numbers = range_with_len 0 n in
    let within : i < length numbers = omega (arith, below, length-range_with_len 0 n) in
    let number : get_or numbers i 0 ≡ i = get_or-range_with_len 0 n i 0 below ∙ zero-add i in
    filter_more test numbers i 0 within
    ∙ ap (λ k. filter test (take i numbers) ++ cond (test k) (k ∷ []) []) number ∙ ap (λ b. filter test (take i numbers) ++ cond b (i ∷ []) []) is

-- new slots for a plan are laid out
pub laid_out :
    (plan : PlanParts) (places : List ℕ) (given : List Slot) → IsPlan plan → places ≡ places_read plan → given ≡ empty_slots plan.names → IsLaidOut plan places given
laid_out plan places given sound read made = record { sound = sound; read = read; kinds = ap slot_kinds made ∙ empty_kinds plan.names }

-- the case that the slot already has the text
pub text_located :
    (given : List Slot) (values : List Value) (place : ℕ) (present text : List ℕ) → true ≡ pointwise nat_eq present text
    → value_at given place ≡ Some (Text present) → slice_get values place ≡ Some (Text text) → value_at given place ≡ slice_get values place
text_located given values place present text same located found = located ∙ ap (λ (bytes : List ℕ). Some (Text bytes)) (same_text present text same) ∙ sym found

-- an index from 1 into a list is the previous index into its tail
pub one_after : (first : Value) (values : List Value) (place : ℕ) → 1 ≤ place → slice_get (first ∷ values) place ≡ slice_get values (place - 1)
one_after first values zero low = absurd (omega (arith, low))
one_after first values (suc n) low = let same : n ≡ suc n - 1 = omega arith in ap (slice_get values) same

-- an index into the first list is the same index into the concatenation
found_in_front : (front following : List Value) (place : ℕ) (value : Value) → slice_get front place ≡ Some value → slice_get (front ++ following) place ≡ Some value
found_in_front [] following place value found = absurd (omega (arith, slice_get_within [] place value found))
found_in_front (first ∷ front) following zero value found = found
found_in_front (first ∷ front) following (suc n) value found = found_in_front front following n value found

-- the fields of a claim begin three places after the member
pub field_from_member :
    (claim : Claim) (acc : Acc) (place : ℕ) (value : Value) → 3 ≤ place → slice_get claim.fields (place - 3) ≡ Some value
    → slice_get (values_from_member claim acc) place ≡ Some value
field_from_member claim acc zero value low found = absurd (omega (arith, low))
field_from_member claim acc (suc zero) value low found = absurd (omega (arith, low))
field_from_member claim acc (suc (suc zero)) value low found = absurd (omega (arith, low))
field_from_member claim acc (suc (suc (suc n))) value low found =
    let same : suc (suc (suc n)) - 3 ≡ n = omega arith in
    found_in_front claim.fields (accumulator_values claim.family acc) n value (subst (λ k. slice_get claim.fields k ≡ Some value) same found)
