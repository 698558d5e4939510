-- Each input of each table has a value if and only if every name that a table reads has one.
use Rattle.std.proofs.Common.{◌≡◌, ℕ, ◌↔◌, true, inl, inr, List, [], ◌∷◌, is_some, refl, subst}
use Rattle.std.specs.List.{list_all, list_any}
use Rattle.std.proofs.lemmas.Bool.{false≢true, eqb-true, eq-eqb, and_parts, and_from, or_cases, or_left, or_right}
use Rattle.tables.specs.declared.inputs.Slot.{Slot}
use Rattle.tables.specs.declared.table.Input.{Input}
use Rattle.tables.specs.declared.table.Origin.{Origin}
use Rattle.tables.specs.declared.table.Origin.TheVariants.{Given, Earlier}
use Rattle.tables.specs.declared.table.Table.{Table}
use Rattle.tables.specs.Inputs.{value_at, reads, needs, has_value, is_served, IsReady}

read_here : (given : List Slot) (place : ℕ) (o : Origin) → has_value given o ≡ true → reads place o ≡ true → is_some (value_at given place) ≡ true
read_here given place (Given p) has e = subst (λ n. is_some (value_at given n) ≡ true) (eqb-true p place e) has
read_here given place (Earlier table column) has e = absurd (false≢true e)

input_has : (given : List Slot) (place : ℕ) (is : List Input) → list_all (λ i. has_value given i.origin) is ≡ true → list_any (λ i. reads place i.origin) is ≡ true → is_some (value_at given place) ≡ true
input_has given place [] all e = absurd (false≢true e)
input_has given place (i ∷ is) all e =
    let both = and_parts (has_value given i.origin) (list_all (λ i. has_value given i.origin) is) all in
    elim (or_cases (reads place i.origin) (list_any (λ i. reads place i.origin) is) e) [
      | inl here ↦ read_here given place i.origin both.0 here
      | inr there ↦ input_has given place is both.1 there
    ]

ready_from : (given : List Slot) (tables : List Table) → list_all (is_served given) tables ≡ true → IsReady tables given
ready_from given [] all place e = absurd (false≢true e)
ready_from given (t ∷ ts) all place e =
    let both = and_parts (is_served given t) (list_all (is_served given) ts) all in
    elim (or_cases (list_any (λ i. reads place i.origin) t.inputs) (needs ts place) e) [
      | inl here ↦ input_has given place t.inputs both.0 here
      | inr there ↦ ready_from given ts both.1 place there
    ]

has_from : (given : List Slot) (o : Origin) → ((place : ℕ) → reads place o ≡ true → is_some (value_at given place) ≡ true) → has_value given o ≡ true
has_from given (Given p) each = each p (eq-eqb p p refl)
has_from given (Earlier table column) each = refl

inputs_from : (given : List Slot) (is : List Input) → ((place : ℕ) → list_any (λ i. reads place i.origin) is ≡ true → is_some (value_at given place) ≡ true) → list_all (λ i. has_value given i.origin) is ≡ true
inputs_from given [] each = refl
inputs_from given (i ∷ is) each =
    and_from (has_value given i.origin) (list_all (λ i. has_value given i.origin) is)
    (has_from given i.origin (λ place e. each place (or_left (reads place i.origin) (list_any (λ i. reads place i.origin) is) e)))
    (inputs_from given is (λ place e. each place (or_right (reads place i.origin) (list_any (λ i. reads place i.origin) is) e)))

served_from : (given : List Slot) (tables : List Table) → IsReady tables given → list_all (is_served given) tables ≡ true
served_from given [] ready = refl
served_from given (t ∷ ts) ready =
    and_from (is_served given t) (list_all (is_served given) ts)
    (inputs_from given t.inputs (λ place e. ready place (or_left (list_any (λ i. reads place i.origin) t.inputs) (needs ts place) e)))
    (served_from given ts (λ place e. ready place (or_right (list_any (λ i. reads place i.origin) t.inputs) (needs ts place) e)))

pub ready_where_served : (given : List Slot) (tables : List Table) → (list_all (is_served given) tables ≡ true) ↔ IsReady tables given
ready_where_served given tables = (ready_from given tables, served_from given tables)
