-- What the search for zones in which claims pend answers.
use Rattle.std.specs.Prelude.{◌≡◌, ◌↔◌, ℕ, ◌-◌, ◌^◌, ◌<◌, List, length, min, slice_get, Some}
use Rattle.std.specs.List.{AllByRecursion}
use Rattle.feel_tests.specs.declared.value.Value.{Value}
use Rattle.faults.specs.declared.reason.Reason.{Reason}
use Rattle.tables.specs.Plan.{PlanParts}
use Rattle.settlement.specs.declared.determination.Determination.TheVariants.{Pended}
use Rattle.cutplan.specs.Check.{cells}
use Rattle.plan_zones.specs.declared.fault.WholeFault.{WholeFault}
use Rattle.plan_zones.specs.declared.fault.WholeFault.TheVariants.{TooWide, NoRoles, InputRole, OutOfMemory}
use Rattle.plan_zones.specs.declared.zone_box.ZoneBox.{ZoneBox}
use Rattle.plan_zones.specs.Zones.{ArePossible, plan_regions}
use Rattle.plan_zones.specs.Boxes.{LieInBox, OneOf}
use Rattle.plan_zones.specs.Determined.{determination_at, role_fault}

-- the number of zones of a plan
abbrev pub zone_count : PlanParts → ℕ
zone_count p = length (cells (plan_regions p))

-- the number of zones, or the greatest number that fits in 64 bits if there are more
abbrev pub counted_zones : PlanParts → ℕ
counted_zones p = min (zone_count p) (2 ^ 64 - 1)

-- a claim with these values of the plan's names is pended for the reason
abbrev pub PendsFor : PlanParts → List Value → Reason → Type 0
PendsFor p values reason = determination_at p values ≡ Pended reason

-- possible values pend a claim for a reason if and only if they lie in a listed box with that reason
abbrev pub PendExactlyIn : PlanParts → List Reason → List ZoneBox → Type 0
PendExactlyIn p reasons boxes = (values : List Value) (reason : Reason) → ArePossible p values
    → PendsFor p values reason ↔ OneOf (λ b. (slice_get reasons b.outcome ≡ Some reason) × LieInBox (plan_regions p) b.sides values) boxes

-- possible values that lie in the box
pub record Example (p : PlanParts) (sides : List (List ℕ)) : Type 0 where
  pub values : List Value
  pub possible : ArePossible p values
  pub lie : LieInBox (plan_regions p) sides values

-- each box contains possible values
abbrev pub HoldValues : PlanParts → List ZoneBox → Type 0
HoldValues p boxes = AllByRecursion (λ b. Example p b.sides) boxes

-- the reason of each box is in the list
abbrev pub HaveReasons : List Reason → List ZoneBox → Type 0
HaveReasons reasons boxes = AllByRecursion (λ b. b.outcome < length reasons) boxes

-- the plan is refused for this: it has more zones than the limit, and the fault has their number; or it
-- has no roles, or one whose source is a name
abbrev pub IsRefusal : PlanParts → ℕ → WholeFault → Type 0
IsRefusal p limit (TooWide zones) = (zones ≡ counted_zones p) × (limit < zones)
IsRefusal p limit NoRoles = role_fault p ≡ Some NoRoles
IsRefusal p limit (InputRole role) = role_fault p ≡ Some (InputRole role)
IsRefusal p limit OutOfMemory = Unit {0}
