-- The claim with the values of a row.
use Rattle.std.proofs.Common.{◌≡◌, ◌≢◌, ◌<◌, ◌+◌, ◌⊎◌, inl, inr, ℕ, ℤ, zero, suc, Bool, true, false, List, [], ◌∷◌, ◌++◌, length, map, take, get_or, Some, slice_get, refl, sym, ap, subst, ◌∙◌, arith, if◌then◌else◌}
use Rattle.std.proofs.lemmas.List.{length_push, map_push, take_more}
use Rattle.std.proofs.lemmas.Option.{none-some, same_Some}
use Rattle.faults.specs.BuiltInNames.{service_name}
use Rattle.feel_tests.specs.Value.{kind_of}
use Rattle.feel_tests.specs.declared.kind.Kind.TheVariants as kinds
use Rattle.feel_tests.specs.declared.value.Value.{Value}
use Rattle.feel_tests.specs.declared.value.Value.TheVariants.{Number, Text, Flag, Day}
use Rattle.tables.specs.declared.inputs.Slot.{Slot}
use Rattle.tables.specs.declared.table.InputData.{InputData}
use Rattle.tables.specs.Inputs.{value_at}
use Rattle.tables.specs.Names.{named_input, names_of}
use Rattle.tables.specs.Plan.{IsPlan, PlanParts, keeps_families}
use Rattle.plan_rows.specs.Filing.{AreFieldsAt, HasNoKind, LacksKind, member_place}

-- the values so far of the plan's fields
pub record AreFieldsSoFar (given : List Slot) (first end : ℕ) (inputs : List InputData) (fields : List Value) : Type 0 where
  pub size : length fields ≡ end
  pub kinds : map kind_of fields ≡ map (λ d. d.kind) (take end inputs)
  pub each : AreFieldsAt given first fields

-- an item of a longer list is an earlier one or the appended one
pushed_at : {A : Type 0} (xs : List A) (x : A) (i : ℕ) (v : A) → slice_get (xs ++ x ∷ []) i ≡ Some v → (slice_get xs i ≡ Some v) ⊎ ((i ≡ length xs) × (x ≡ v))
pushed_at [] x zero v there = inr (refl, same_Some x v there)
pushed_at [] x (suc i) v there = absurd (none-some v there)
pushed_at (y ∷ ys) x zero v there = inl there
pushed_at (y ∷ ys) x (suc i) v there =
    elim (pushed_at ys x i v there) [
      | inl earlier ↦ inl earlier
      | inr last ↦ inr (ap suc last.0, last.1)
    ]

pub fields_more : (given : List Slot) (first index : ℕ) (inputs : List InputData) (d : InputData) (fields after : List Value) (value : Value) → index < length inputs
    → after ≡ fields ++ value ∷ [] → value_at given (first + index) ≡ Some value → kind_of value ≡ (get_or inputs index d).kind → AreFieldsSoFar given first index inputs fields
    → AreFieldsSoFar given first (index + 1) inputs after
fields_more given first index inputs d fields after value within pushed there kind before =
    subst (AreFieldsSoFar given first (index + 1) inputs) (sym pushed)
    (record {
      size = length_push fields value ∙ ap (λ n. n + 1) before.size;
      kinds = map_push kind_of fields value ∙ ap (λ ks. ks ++ kind_of value ∷ []) before.kinds ∙ ap (λ k. map (λ (x : InputData). x.kind) (take index inputs) ++ k ∷ []) kind
          ∙ sym (ap (map (λ (x : InputData). x.kind)) (take_more inputs index d within) ∙ map_push (λ (x : InputData). x.kind) (take index inputs) (get_or inputs index d));
      each = λ i v at. by (pushed_at fields value i v at);
    }) where
      by : {i : ℕ} {v : Value} → (slice_get fields i ≡ Some v) ⊎ ((i ≡ length fields) × (value ≡ v)) → value_at given (first + i) ≡ Some v
      by {i} {v} (inl earlier) = before.each i v earlier
      by {i} {v} (inr last) = let same : i ≡ index = last.0 ∙ before.size in rw (same, sym last.1) there

-- a field is the name that many places after the names of every claim
at_front : (xs ys : List InputData) (index : ℕ) (d : InputData) → index < length xs → slice_get (xs ++ ys) index ≡ Some (get_or xs index d)
at_front [] ys index d within = absurd (omega (arith, within))
at_front (x ∷ xs) ys zero d within = refl
at_front (x ∷ xs) ys (suc index) d within = at_front xs ys index d (omega (arith, within))

field_named_by : (families : Bool) (inputs : List InputData) (index : ℕ) (d : InputData) → index < length inputs
    → slice_get (names_of families inputs) (((if families then 2 else 1) + 3) + index) ≡ Some (get_or inputs index d)
field_named_by true inputs index d within =
    let place : 5 + index ≡ suc (suc (suc (suc (suc index)))) = omega arith in
    subst (λ p. slice_get (names_of true inputs) p ≡ Some (get_or inputs index d)) (sym place) (at_front inputs _ index d within)
field_named_by false inputs index d within =
    let place : 4 + index ≡ suc (suc (suc (suc index))) = omega arith in
    subst (λ p. slice_get (names_of false inputs) p ≡ Some (get_or inputs index d)) (sym place) (at_front inputs _ index d within)

pub field_named : (plan : PlanParts) (inputs : List InputData) (index : ℕ) (d : InputData) → plan.names ≡ names_of (keeps_families plan) inputs → index < length inputs
    → slice_get plan.names ((member_place plan + 3) + index) ≡ Some (get_or inputs index d)
field_named plan inputs index d names within = ap (λ ns. slice_get ns ((member_place plan + 3) + index)) names ∙ field_named_by (keeps_families plan) inputs index d within

service_by : (families : Bool) (inputs : List InputData) → slice_get (names_of families inputs) ((if families then 2 else 1) + 1) ≡ Some (named_input service_name kinds.Day)
service_by true inputs = refl
service_by false inputs = refl

-- a plan's claims need a day
pub lacks_day : (plan : PlanParts) (given : List Slot) → IsPlan plan → LacksKind given (member_place plan + 1) kinds.Day → HasNoKind plan given (member_place plan + 1)
lacks_day plan given sound lacks = record {
  input = named_input service_name kinds.Day;
  named = ap (λ ns. slice_get ns (member_place plan + 1)) sound.names ∙ service_by (keeps_families plan) sound.fields;
  lacks = lacks;
}

pub is_a_day : (v : Value) → kind_of v ≡ kinds.Day → ((day : ℤ) → v ≢ Day day) → ⊥
is_a_day (Number units) kind other = absurd (cc kind)
is_a_day (Text text) kind other = absurd (cc kind)
is_a_day (Flag flag) kind other = absurd (cc kind)
is_a_day (Day day) kind other = other day refl
