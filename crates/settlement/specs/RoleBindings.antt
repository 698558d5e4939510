-- The places of the outputs that give a plan's roles their values.
use Rattle.std.specs.Prelude.{◌≡◌, ℕ, List, Option, Some, None}
use Rattle.std.specs.Option.{option_and_then}
use Rattle.tables.specs.declared.environment.Answer.{Answer}
use Rattle.tables.specs.declared.output_place.OutputPlace.{OutputPlace}
use Rattle.tables.specs.declared.roles.FamilyRoles.{FamilyRoles}
use Rattle.tables.specs.declared.roles.Roles.{Roles}
use Rattle.tables.specs.declared.roles.Source.{Source}
use Rattle.tables.specs.declared.roles.Source.TheVariants.{Literal, Input, Output}
use Rattle.tables.specs.declared.table.Table.{Table}
use Rattle.tables.specs.Environment.{answer_of, answer_at}
use Rattle.tables.specs.Plan.{PlanParts}
use Rattle.settlement.specs.declared.role_bindings.FamilyBindings.{FamilyBindings}
use Rattle.settlement.specs.declared.role_bindings.RoleBindings.{RoleBindings}

-- the answer at the place is the answer of the output with the name in every evaluation
abbrev pub IsPlaceOf : List Table → List ℕ → Option OutputPlace → Type 0
IsPlaceOf tables name place = (answers : List (List Answer)) → answer_of tables answers name ≡ option_and_then (answer_at answers) place

-- if the source is an output, the place is the place of that output
abbrev pub IsPlaced : List Table → Source → Option OutputPlace → Type 0
IsPlaced tables (Literal value) place = Unit {0}
IsPlaced tables (Input p) place = Unit {0}
IsPlaced tables (Output name) place = IsPlaceOf tables name place

-- if the plan names an output for the remarks, the place is the place of that output
abbrev pub AreRemarksPlaced : List Table → Option (List ℕ) → Option OutputPlace → Type 0
AreRemarksPlaced tables None place = Unit {0}
AreRemarksPlaced tables (Some name) place = IsPlaceOf tables name place

-- the places of the family's limits are right
pub record AreLimitsPlaced (tables : List Table) (limits : FamilyRoles) (places : FamilyBindings) : Type 0 where
  pub deductible : IsPlaced tables limits.deductible places.deductible
  pub oop_max : IsPlaced tables limits.oop_max places.oop_max

-- the places of the family's limits are right if the plan has such limits
abbrev pub AreFamilyPlaced : List Table → Option FamilyRoles → FamilyBindings → Type 0
AreFamilyPlaced tables None places = Unit {0}
AreFamilyPlaced tables (Some limits) places = AreLimitsPlaced tables limits places

-- the places of all roles are right
pub record ArePlaced (tables : List Table) (roles : Roles) (places : RoleBindings) : Type 0 where
  pub cover : IsPlaced tables roles.cover places.cover
  pub fee : IsPlaced tables roles.fee places.fee
  pub deductible : IsPlaced tables roles.deductible places.deductible
  pub copay : IsPlaced tables roles.copay places.copay
  pub rate : IsPlaced tables roles.rate places.rate
  pub oop_max : IsPlaced tables roles.oop_max places.oop_max
  pub remarks : AreRemarksPlaced tables roles.remarks places.remarks
  pub family : AreFamilyPlaced tables roles.family places.family

-- the places of a plan's roles are right if the plan has roles
abbrev pub ArePlacedFor : PlanParts → RoleBindings → Type 0
ArePlacedFor plan places = (roles : Roles) → plan.roles ≡ Some roles → ArePlaced plan.tables roles places
