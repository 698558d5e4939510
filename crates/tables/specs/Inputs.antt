-- The values of the names that tables read.
use Rattle.std.specs.Prelude.{◌≡◌, ℕ, Bool, true, false, ◌==◌, List, map, Option, Some, None, slice_get, slice_set, IsTrue, IsSome, is_some}
use Rattle.std.specs.List.{list_any, list_all}
use Rattle.std.specs.Option.{option_and_then, option_map}
use Rattle.feel_tests.specs.declared.kind.Kind.{Kind}
use Rattle.feel_tests.specs.declared.value.Value.{Value}
use Rattle.feel_tests.specs.Value.{kind_of}
use Rattle.tables.specs.declared.inputs.Slot.{Slot}
use Rattle.tables.specs.declared.table.InputData.{InputData}
use Rattle.tables.specs.declared.table.Origin.{Origin}
use Rattle.tables.specs.declared.table.Origin.TheVariants.{Given, Earlier}
use Rattle.tables.specs.declared.table.Table.{Table}

-- the value of the name at an index, if it is set
abbrev pub value_at : List Slot → ℕ → Option Value
value_at given place = option_and_then (λ s. s.value) (slice_get given place)

-- a slot for each name, with its kind and without a value
abbrev pub empty_slots : List InputData → List Slot
empty_slots names = map (λ d. record { kind = d.kind; value = None }) names

-- the kind of the name at an index, if there is one
abbrev pub kind_at : List Slot → ℕ → Option Kind
kind_at given place = option_map (λ s. s.kind) (slice_get given place)

-- the slot at this index takes values of this kind
abbrev pub Takes : List Slot → ℕ → Kind → Type 0
Takes given place kind = kind_at given place ≡ Some kind

-- the slots after the one at this index is set to a value
abbrev pub fill_slot : List Slot → ℕ → Value → List Slot
fill_slot given place value = slice_set given place (record { kind = kind_of value; value = Some value })

-- the slots after the one at this index, of this kind, loses its value
abbrev pub empty_slot : List Slot → ℕ → Kind → List Slot
empty_slot given place kind = slice_set given place (record { kind = kind; value = None })

-- the input reads the name at this index
abbrev pub reads : ℕ → Origin → Bool
reads place (Given p) = p == place
reads place (Earlier table column) = false

-- some table reads the name at this index
abbrev pub needs : List Table → ℕ → Bool
needs tables place = list_any (λ t. list_any (λ i. reads place i.origin) t.inputs) tables

-- every name that a table reads has a value
abbrev pub IsReady : List Table → List Slot → Type 0
IsReady tables given = (place : ℕ) → IsTrue (needs tables place) → IsSome (value_at given place)

-- a name that is read has a value
abbrev pub has_value : List Slot → Origin → Bool
has_value given (Given place) = is_some (value_at given place)
has_value given (Earlier table column) = true

-- each name that the table reads has a value
abbrev pub is_served : List Slot → Table → Bool
is_served given t = list_all (λ i. has_value given i.origin) t.inputs
