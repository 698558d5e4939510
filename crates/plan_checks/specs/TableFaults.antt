-- The faults of a plan's tables, without its roles, and what `check --whole` lists of a plan.
use Rattle.std.specs.Prelude.{◌≡◌, ◌↔◌, ℕ, List, [], map, slice_get, Option, Some, None, Result, Ok, Err}
use Rattle.feel_tests.specs.declared.value.Value.{Value}
use Rattle.faults.specs.declared.fault.Fault.{Fault}
use Rattle.faults.specs.declared.reason.Reason.{Reason}
use Rattle.faults.specs.Reason.{reason_of}
use Rattle.tables.specs.declared.environment.Answer.{Answer}
use Rattle.tables.specs.declared.roles.Roles.{Roles}
use Rattle.tables.specs.declared.table.Table.{Table}
use Rattle.tables.specs.Environment.{answers_of}
use Rattle.tables.specs.Plan.{PlanParts}
use Rattle.settlement.specs.Bindings.{slot_of}
use Rattle.regions.specs.declared.region.Region.{Region}
use Rattle.cutplan.specs.ClassWise.{answers_in}
use Rattle.plan_zones.specs.declared.fault.WholeFault.{WholeFault}
use Rattle.plan_zones.specs.declared.fault.WholeFault.TheVariants.{TooWide, NoRoles, InputRole, OutOfMemory}
use Rattle.plan_zones.specs.declared.zone_box.ZoneBox.{ZoneBox}
use Rattle.plan_zones.specs.Boxes.{LieInBox, OneOf}
use Rattle.plan_checks.specs.Dead.{IsTooWide}
use Rattle.plan_zones.specs.Determined.{role_fault}
use Rattle.plan_checks.specs.Pending.{PendsFor}
use Rattle.plan_zones.specs.Zones.{ArePossible, class_of, plan_regions}

-- the reason of a fault, if there is one
abbrev pub fault_reason : Result (List (List Answer)) Fault → Option Reason
fault_reason (Ok answers) = None
fault_reason (Err fault) = reason_of fault

-- the reason of the tables' fault in a zone
abbrev pub fault_reason_in : List Table → List (List Region) → List ℕ → Option Reason
fault_reason_in tables regions zone = fault_reason (answers_in (class_of regions zone) [] tables)

-- the tables have a fault with this reason at these values of the plan's names
abbrev pub HasFault : PlanParts → List Value → Reason → Type 0
HasFault p values reason = fault_reason (answers_of (map slot_of values) [] p.tables) ≡ Some reason

-- the tables have a fault at possible values if and only if they lie in a listed box with its reason
abbrev pub HaveFaultsExactlyIn : PlanParts → List Reason → List ZoneBox → Type 0
HaveFaultsExactlyIn p reasons boxes = (values : List Value) (reason : Reason) → ArePossible p values
    → HasFault p values reason ↔ OneOf (λ b. (slice_get reasons b.outcome ≡ Some reason) × LieInBox (plan_regions p) b.sides values) boxes

-- a claim with these values pends for the reason; without roles, the tables have a fault with it
abbrev pub FailsBy : Option Roles → PlanParts → List Value → Reason → Type 0
FailsBy (Some roles) p values reason = PendsFor p values reason
FailsBy None p values reason = HasFault p values reason

abbrev pub FailsFor : PlanParts → List Value → Reason → Type 0
FailsFor p values reason = FailsBy p.roles p values reason

-- possible values fail for a reason if and only if they lie in a listed box with that reason
abbrev pub FailExactlyIn : PlanParts → List Reason → List ZoneBox → Type 0
FailExactlyIn p reasons boxes = (values : List Value) (reason : Reason) → ArePossible p values
    → FailsFor p values reason ↔ OneOf (λ b. (slice_get reasons b.outcome ≡ Some reason) × LieInBox (plan_regions p) b.sides values) boxes

-- there is no list since the plan has more zones than the limit, and the fault has their number; or a
-- role has the value of a name; or memory ran out
abbrev pub IsUnlisted : PlanParts → ℕ → WholeFault → Type 0
IsUnlisted p limit (TooWide zones) = IsTooWide p limit (TooWide zones)
IsUnlisted p limit (InputRole role) = role_fault p ≡ Some (InputRole role)
IsUnlisted p limit OutOfMemory = Unit {0}
IsUnlisted p limit NoRoles = ⊥
