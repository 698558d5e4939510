-- The values that a claim and its accumulators give the names of a plan.
use Rattle.std.specs.Prelude.{ℕ, List, [], ◌∷◌, ◌++◌, map, Option, Some, None}
use Rattle.feel_tests.specs.Value.{kind_of}
use Rattle.feel_tests.specs.declared.kind.Kind.{Kind}
use Rattle.feel_tests.specs.declared.value.Value.{Value}
use Rattle.feel_tests.specs.declared.value.Value.TheVariants.{Number, Text, Day}
use Rattle.tables.specs.declared.inputs.Slot.{Slot}
use Rattle.settlement.specs.declared.bindings.BoundValue.{BoundValue}
use Rattle.settlement.specs.declared.bindings.BoundValue.TheVariants as borrowed
use Rattle.settlement.specs.declared.acc.Acc.{Acc}
use Rattle.settlement.specs.declared.claim.Claim.{Claim}

-- the accumulators as values; a claim with a family has the family's sums, too
abbrev pub accumulator_values : Option (List ℕ) → Acc → List Value
accumulator_values None acc = Number acc.met ∷ Number acc.oop ∷ Number acc.paid ∷ []
accumulator_values (Some family) acc = Number acc.met ∷ Number acc.oop ∷ Number acc.paid ∷ Number acc.fmet ∷ Number acc.foop ∷ []

-- the values after the billed amount: the fields and the accumulators
abbrev pub values_after : Claim → Acc → List Value
values_after claim acc = claim.fields ++ accumulator_values claim.family acc

-- the values from the member onwards
abbrev pub values_from_member : Claim → Acc → List Value
values_from_member claim acc = Text claim.member ∷ Day claim.service ∷ Number claim.billed ∷ values_after claim acc

-- the values after the family, if the claim has one
abbrev pub after_family : Option (List ℕ) → List Value → List Value
after_family None values = values
after_family (Some family) values = Text family ∷ values

-- the values of a plan's names, in order: the identifier, the family if there is one, the member,
-- the service, the billed amount, the fields and the accumulators
abbrev pub values_given : Claim → Acc → List Value
values_given claim acc = Text claim.id ∷ after_family claim.family (values_from_member claim acc)

-- the value of a name, which may be borrowed
abbrev pub value_bound : BoundValue → Value
value_bound (borrowed.Text text) = Text text.now
value_bound (borrowed.Field value) = value.now
value_bound (borrowed.Amount number) = Number number
value_bound (borrowed.Day day) = Day day

-- a slot with its value
abbrev pub slot_of : Value → Slot
slot_of value = record { kind = kind_of value; value = Some value }

-- the slots of a plan's names, with their values
abbrev pub given_by : Claim → Acc → List Slot
given_by claim acc = map slot_of (values_given claim acc)

-- the kinds of the slots
abbrev pub slot_kinds : List Slot → List Kind
slot_kinds given = map (λ s. s.kind) given
