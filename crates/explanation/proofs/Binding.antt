-- The slots of a plan's names, filled one after another.
use Rattle.std.proofs.Common.{◌≡◌, ℕ, zero, suc, ◌+◌, ◌<◌, ◌≤◌, List, [], ◌∷◌, map, length, slice_get, Some, refl, sym, ap, subst, ◌∙◌, arith}
use Rattle.std.specs.Prelude.{get_or}
use Rattle.feel_tests.specs.Value.{kind_of}
use Rattle.feel_tests.specs.declared.value.Value.{Value}
use Rattle.tables.specs.Inputs.{Takes, empty_slots, fill_slot}
use Rattle.tables.specs.declared.inputs.Slot.{Slot}
use Rattle.tables.specs.declared.table.InputData.{InputData}
use Rattle.settlement.specs.Bindings.{slot_of}

-- the first slots have their values, and the others are empty
abbrev pub filled : List InputData → List Value → ℕ → List Slot
filled names [] place = empty_slots names
filled [] (value ∷ values) place = []
filled (d ∷ names) (value ∷ values) zero = empty_slots (d ∷ names)
filled (d ∷ names) (value ∷ values) (suc place) = slot_of value ∷ filled names values place

pub filled_none : (names : List InputData) (values : List Value) → map (λ (d : InputData). d.kind) names ≡ map kind_of values → filled names values 0 ≡ empty_slots names
filled_none names [] kinds = refl
filled_none [] (value ∷ values) kinds = absurd (cc kinds)
filled_none (d ∷ names) (value ∷ values) kinds = refl

pub filled_takes : (names : List InputData) (values : List Value) (place : ℕ) (value : Value) → map (λ (d : InputData). d.kind) names ≡ map kind_of values
    → slice_get values place ≡ Some value → Takes (filled names values place) place (kind_of value)
filled_takes names [] place value kinds there = absurd (cc there)
filled_takes [] (v ∷ values) place value kinds there = absurd (cc kinds)
filled_takes (d ∷ names) (v ∷ values) zero value kinds there =
    let kind : d.kind ≡ kind_of v = cc kinds in
    let same : v ≡ value = cc there in
    ap Some (kind ∙ ap kind_of same)
filled_takes (d ∷ names) (v ∷ values) (suc place) value kinds there =
    let rest : map (λ (d : InputData). d.kind) names ≡ map kind_of values = cc kinds in
    filled_takes names values place value rest there

pub filled_more : (names : List InputData) (values : List Value) (place : ℕ) (value : Value) → map (λ (d : InputData). d.kind) names ≡ map kind_of values
    → slice_get values place ≡ Some value → fill_slot (filled names values place) place value ≡ filled names values (suc place)
filled_more names [] place value kinds there = absurd (cc there)
filled_more [] (v ∷ values) place value kinds there = absurd (cc kinds)
filled_more (d ∷ names) (v ∷ values) zero value kinds there =
    let rest : map (λ (d : InputData). d.kind) names ≡ map kind_of values = cc kinds in
    let same : v ≡ value = cc there in
    ap (λ x. slot_of x ∷ empty_slots names) (sym same) ∙ ap (λ slots. slot_of v ∷ slots) (sym (filled_none names values rest))
filled_more (d ∷ names) (v ∷ values) (suc place) value kinds there =
    let rest : map (λ (d : InputData). d.kind) names ≡ map kind_of values = cc kinds in
    ap (λ slots. slot_of v ∷ slots) (filled_more names values place value rest there)

value_there : (values : List Value) (place : ℕ) (value : Value) → place < length values → value ≡ get_or values place value → slice_get values place ≡ Some value
value_there [] place value below is = absurd (omega (arith, below))
value_there (v ∷ values) zero value below is = ap Some (sym is)
value_there (v ∷ values) (suc place) value below is = value_there values place value (omega (arith, below)) is

pub takes_next : (names : List InputData) (values : List Value) (place : ℕ) (slots : List Slot) (value copy : Value) → slots ≡ filled names values place
    → map (λ (d : InputData). d.kind) names ≡ map kind_of values → place < length values → value ≡ get_or values place value → copy ≡ value → Takes slots place (kind_of copy)
takes_next names values place slots value copy is kinds below present same =
    let takes = filled_takes names values place value kinds (value_there values place value below present) in
    subst (λ s. Takes s place (kind_of copy)) (sym is) (subst (λ v. Takes (filled names values place) place (kind_of v)) (sym same) takes)

pub more_filled : (names : List InputData) (values : List Value) (place : ℕ) (slots new : List Slot) (value copy : Value) → slots ≡ filled names values place
    → map (λ (d : InputData). d.kind) names ≡ map kind_of values → place < length values → value ≡ get_or values place value → copy ≡ value → new ≡ fill_slot slots place copy
    → new ≡ filled names values (place + 1)
more_filled names values place slots new value copy is kinds below present same made =
    let more : suc place ≡ place + 1 = omega arith in
    made ∙ ap (λ s. fill_slot s place copy) is ∙ ap (fill_slot (filled names values place) place) same
    ∙ filled_more names values place value kinds (value_there values place value below present) ∙ ap (filled names values) more

filled_past : (names : List InputData) (values : List Value) (place : ℕ) → map (λ (d : InputData). d.kind) names ≡ map kind_of values → length values ≤ place
    → filled names values place ≡ map slot_of values
filled_past [] [] place kinds past = refl
filled_past (d ∷ names) [] place kinds past = absurd (cc kinds)
filled_past [] (value ∷ values) place kinds past = absurd (cc kinds)
filled_past (d ∷ names) (value ∷ values) zero kinds past = absurd (omega (arith, past))
filled_past (d ∷ names) (value ∷ values) (suc place) kinds past =
    let rest : map (λ (d : InputData). d.kind) names ≡ map kind_of values = cc kinds in
    ap (λ slots. slot_of value ∷ slots) (filled_past names values place rest (omega (arith, past)))

pub all_filled : (names : List InputData) (values given : List Value) (place : ℕ) (slots : List Slot) → slots ≡ filled names values place
    → map (λ (d : InputData). d.kind) names ≡ map kind_of values → length values ≤ place → values ≡ given → slots ≡ map slot_of given
all_filled names values given place slots is kinds past same = is ∙ filled_past names values place kinds past ∙ ap (map slot_of) same
