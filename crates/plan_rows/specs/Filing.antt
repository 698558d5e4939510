-- The claim that has the values of a row, and the accumulators before it. A text that the row does not give is empty, and an amount is zero.
use Rattle.std.specs.Prelude.{◌≡◌, ◌≢◌, ◌⊎◌, ℕ, ℤ, pos, ◌+◌, ◌-◌, Bool, true, false, List, [], map, Option, Some, None, slice_get, if◌then◌else◌, length}
use Rattle.fixpoint.specs.Money.{IsMoney}
use Rattle.feel_tests.specs.Value.{kind_of}
use Rattle.feel_tests.specs.declared.kind.Kind.{Kind}
use Rattle.feel_tests.specs.declared.value.Value.{Value}
use Rattle.feel_tests.specs.declared.value.Value.TheVariants.{Number, Text, Day}
use Rattle.tables.specs.declared.inputs.Slot.{Slot}
use Rattle.tables.specs.declared.table.InputData.{InputData}
use Rattle.tables.specs.Inputs.{value_at}
use Rattle.tables.specs.Names.{names_of}
use Rattle.tables.specs.Plan.{PlanParts, keeps_families}
use Rattle.settlement.specs.declared.acc.Acc.{Acc}
use Rattle.settlement.specs.declared.claim.Claim.{Claim}
use Rattle.settlement.specs.Claim.{IsClaimOf}

-- the index of the name `member`: the names of the claim and of the family precede it
abbrev pub member_place : PlanParts → ℕ
member_place p = if keeps_families p then 2 else 1

-- the index of the first accumulator
abbrev pub first_accumulator : PlanParts → ℕ
first_accumulator p = length p.names - (if keeps_families p then 5 else 3)

-- the text of the name at an index; empty if it has none
abbrev pub IsTextAt : List Slot → ℕ → List ℕ → Type 0
IsTextAt given place text = (value_at given place ≡ Some (Text text)) ⊎ (((other : List ℕ) → value_at given place ≢ Some (Text other)) × (text ≡ []))

-- the number of the name at an index; zero if it has none
abbrev pub IsAmountAt : List Slot → ℕ → ℤ → Type 0
IsAmountAt given place units = (value_at given place ≡ Some (Number units)) ⊎ (((other : ℤ) → value_at given place ≢ Some (Number other)) × (units ≡ pos 0))

-- the same for a name that only a plan with families has
abbrev pub IsFamilyAmountAt : Bool → List Slot → ℕ → ℤ → Type 0
IsFamilyAmountAt true given place units = IsAmountAt given place units
IsFamilyAmountAt false given place units = units ≡ pos 0

-- the family, which follows the claim in a plan with families
abbrev pub IsFamilyAt : Bool → List Slot → Option (List ℕ) → Type 0
IsFamilyAt families given None = families ≡ false
IsFamilyAt families given (Some family) = (families ≡ true) × IsTextAt given 1 family

-- the values of the names from an index on
abbrev pub AreFieldsAt : List Slot → ℕ → List Value → Type 0
AreFieldsAt given first fields = (index : ℕ) (value : Value) → slice_get fields index ≡ Some value → value_at given (first + index) ≡ Some value

-- the values of the plan's fields, each of its kind
pub record AreFieldsOf (plan : PlanParts) (given : List Slot) (fields : List Value) : Type 0 where
  pub inputs : List InputData
  pub names : plan.names ≡ names_of (keeps_families plan) inputs
  pub kinds : map kind_of fields ≡ map (λ d. d.kind) inputs
  pub each : AreFieldsAt given (member_place plan + 3) fields

-- a claim of the plan that has these values
pub record IsClaimBy (plan : PlanParts) (given : List Slot) (claim : Claim) : Type 0 where
  pub of_plan : IsClaimOf plan claim
  pub id : IsTextAt given 0 claim.id
  pub family : IsFamilyAt (keeps_families plan) given claim.family
  pub member : IsTextAt given (member_place plan) claim.member
  pub service : value_at given (member_place plan + 1) ≡ Some (Day claim.service)
  pub billed : IsAmountAt given (member_place plan + 2) claim.billed
  pub fields : AreFieldsAt given (member_place plan + 3) claim.fields

-- the accumulators of the plan that have these values
pub record AreAccumulators (plan : PlanParts) (given : List Slot) (acc : Acc) : Type 0 where
  pub met : IsAmountAt given (first_accumulator plan) acc.met
  pub oop : IsAmountAt given (first_accumulator plan + 1) acc.oop
  pub paid : IsAmountAt given (first_accumulator plan + 2) acc.paid
  pub fmet : IsFamilyAmountAt (keeps_families plan) given (first_accumulator plan + 3) acc.fmet
  pub foop : IsFamilyAmountAt (keeps_families plan) given (first_accumulator plan + 4) acc.foop

-- a claim of the plan and the accumulators before it, with these values
pub record IsFiledBy (plan : PlanParts) (given : List Slot) (claim : Claim) (acc : Acc) : Type 0 where
  pub claim_is : IsClaimBy plan given claim
  pub acc_is : AreAccumulators plan given acc

-- the name at an index has no value of this kind
abbrev pub LacksKind : List Slot → ℕ → Kind → Type 0
LacksKind given place kind = (value : Value) → value_at given place ≡ Some value → kind_of value ≢ kind

-- a name of the plan has no value of its kind
pub record HasNoKind (plan : PlanParts) (given : List Slot) (place : ℕ) : Type 0 where
  pub input : InputData
  pub named : slice_get plan.names place ≡ Some input
  pub lacks : LacksKind given place input.kind

-- the value of a name is a number that is not an amount of money
pub record IsNoAmountAt (given : List Slot) (place : ℕ) : Type 0 where
  pub units : ℤ
  pub present : value_at given place ≡ Some (Number units)
  pub other : ¬ IsMoney units

-- no claim has the value of the name at an index
abbrev pub IsUnfit : PlanParts → List Slot → ℕ → Type 0
IsUnfit plan given place = HasNoKind plan given place ⊎ IsNoAmountAt given place
