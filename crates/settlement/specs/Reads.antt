-- The values of a claim and of its accumulators that a plan reads.
use Rattle.std.specs.Prelude.{◌≡◌, ◌==◌, ℕ, Bool, true, false, ◌||◌, List, filter, length, map, slice_get, Option, Some, None, IsTrue}
use Rattle.std.specs.List.{range_with_len}
use Rattle.std.specs.Option.{option_map_or}
use Rattle.tables.specs.declared.inputs.Slot.{Slot}
use Rattle.tables.specs.declared.roles.FamilyRoles.{FamilyRoles}
use Rattle.tables.specs.declared.roles.Roles.{Roles}
use Rattle.tables.specs.declared.roles.Source.{Source}
use Rattle.tables.specs.declared.roles.Source.TheVariants.{Literal, Input, Output}
use Rattle.tables.specs.Inputs.{needs, value_at}
use Rattle.tables.specs.Plan.{PlanParts, IsPlan}
use Rattle.settlement.specs.declared.acc.Acc.{Acc}
use Rattle.settlement.specs.declared.claim.Claim.{Claim}
use Rattle.settlement.specs.Bindings.{slot_kinds, values_given}

-- the name is at the place; without a place, every name is meant
abbrev pub is_at : Option ℕ → ℕ → Bool
is_at None name = true
is_at (Some place) name = name == place

-- the role has the value of the name at the place
abbrev pub source_reads : Option ℕ → Source → Bool
source_reads place (Literal value) = false
source_reads place (Input name) = is_at place name
source_reads place (Output name) = false

-- one of the family's limits has the value of the name at the place
abbrev pub limits_read : Option ℕ → Option FamilyRoles → Bool
limits_read place None = false
limits_read place (Some limits) = source_reads place limits.deductible || source_reads place limits.oop_max

-- one of these roles has the value of the name at the place
abbrev pub roles_read : Option ℕ → Roles → Bool
roles_read place roles =
    source_reads place roles.cover || (source_reads place roles.fee || (source_reads place roles.deductible || (source_reads place roles.copay
    || (source_reads place roles.rate || (source_reads place roles.oop_max || limits_read place roles.family)))))

-- some role has the value of the name at the place
abbrev pub any_role_reads : Option ℕ → Option Roles → Bool
any_role_reads place roles = option_map_or (roles_read place) roles false

-- some table or role reads the name at the place
abbrev pub is_read : PlanParts → ℕ → Bool
is_read plan place = needs plan.tables place || any_role_reads (Some place) plan.roles

-- the places of the names that the plan reads, in order
abbrev pub places_read : PlanParts → List ℕ
places_read plan = filter (is_read plan) (range_with_len 0 (length plan.names))

-- the slot at the place has the value that the claim and the accumulators give it
abbrev pub HasItsValue : Claim → Acc → List Slot → ℕ → Type 0
HasItsValue claim acc given place = value_at given place ≡ slice_get (values_given claim acc) place

-- every slot that the plan reads has the value that the claim and the accumulators give it
abbrev pub Serves : PlanParts → Claim → Acc → List Slot → Type 0
Serves plan claim acc given = (place : ℕ) → IsTrue (is_read plan place) → HasItsValue claim acc given place

-- the slots of an adjudicator by a plan: the places that the plan reads, and a slot of the right
-- kind for each name
pub record IsLaidOut (plan : PlanParts) (places : List ℕ) (given : List Slot) : Type 0 where
  pub sound : IsPlan plan
  pub read : places ≡ places_read plan
  pub kinds : slot_kinds given ≡ map (λ d. d.kind) plan.names
