-- Rules and tests of a plan that are of no use for any claim, and what is promised of their lists.
use Rattle.std.specs.Prelude.{◌≡◌, ◌↔◌, ◌<◌, ℕ, Bool, List, [], filter, map, take, slice_get, Some, None, Ok, IsTrue, Contains}
use Rattle.feel_tests.specs.declared.cell.Test.{Test}
use Rattle.feel_tests.specs.declared.value.Value.{Value}
use Rattle.feel_tests.specs.Holds.{passes}
use Rattle.tables.specs.declared.environment.Answer.{Answer}
use Rattle.tables.specs.declared.inputs.Slot.{Slot}
use Rattle.tables.specs.declared.table.Input.{Input}
use Rattle.tables.specs.declared.table.Table.{Table}
use Rattle.tables.specs.Environment.{answers_of, table_value}
use Rattle.tables.specs.Matching.{first_outside, matching, value_read}
use Rattle.tables.specs.Plan.{PlanParts}
use Rattle.settlement.specs.Bindings.{slot_of}
use Rattle.plan_zones.specs.declared.fault.WholeFault.{WholeFault}
use Rattle.plan_zones.specs.declared.fault.WholeFault.TheVariants.{TooWide, NoRoles, InputRole, OutOfMemory}
use Rattle.plan_zones.specs.declared.rule_place.RulePlace.{RulePlace}
use Rattle.plan_zones.specs.declared.rule_place.TestPlace.{TestPlace}
use Rattle.plan_zones.specs.Giving.{giving}
use Rattle.plan_checks.specs.Pending.{counted_zones}
use Rattle.plan_zones.specs.RulePlaces.{all_rules, all_tests, test_at}
use Rattle.plan_zones.specs.Zones.{ArePossible}

-- the table at an index is asked: the tables before it have these answers, and no fault
pub record IsAsked (p : PlanParts) (given : List Slot) (index : ℕ) (table : Table) (earlier : List (List Answer)) : Type 0 where
  pub there : slice_get p.tables index ≡ Some table
  pub before : answers_of given [] (take index p.tables) ≡ Ok earlier

-- at these values of the plan's names the rule gives the answer of its table, or a part of it
pub record GivesAnswer (p : PlanParts) (values : List Value) (place : RulePlace) : Type 0 where
  pub table : Table
  pub earlier : List (List Answer)
  pub asked : IsAsked p (map slot_of values) place.table table earlier
  pub answers : List Answer
  pub value : table_value (map slot_of values) earlier table ≡ Ok answers
  pub gives : Contains (giving table.hit table (matching (map slot_of values) earlier table) answers) place.rule

-- at these values the test holds for what its column reads, and no column of its table is outside its
-- allowed values
pub record IsMet (p : PlanParts) (values : List Value) (place : TestPlace) : Type 0 where
  pub table : Table
  pub earlier : List (List Answer)
  pub asked : IsAsked p (map slot_of values) place.rule.table table earlier
  pub inside : first_outside (map slot_of values) earlier table ≡ None
  pub input : Input
  pub column : slice_get table.inputs place.column ≡ Some input
  pub test : Test
  pub there : test_at p.tables place ≡ Some test
  pub value : Value
  pub read : value_read (map slot_of values) earlier input.origin ≡ Some value
  pub holds : IsTrue (passes test value)

-- the parts that are of use at no values that a claim can have, in their order among all parts
pub record AreUnused {X : Type 0} (p : PlanParts) (IsUsed : List Value → X → Type 0) (all found : List X) : Type 0 where
  pub keeps : X → Bool
  pub are : found ≡ filter keeps all
  pub right : (x : X) → Contains all x → IsTrue (keeps x) ↔ ((values : List Value) → ArePossible p values → ¬ IsUsed values x)

-- the rules of the plan that give the answer of their table, or a part of it, at no values
abbrev pub AreDeadRules : PlanParts → List RulePlace → Type 0
AreDeadRules p found = AreUnused p (GivesAnswer p) (all_rules p.tables) found

-- the tests of the plan's cells that hold at no values
abbrev pub AreDeadTests : PlanParts → List TestPlace → Type 0
AreDeadTests p found = AreUnused p (IsMet p) (all_tests p.tables) found

-- there is no list since the plan has more zones than the limit, and the fault has their number; or
-- memory ran out
abbrev pub IsTooWide : PlanParts → ℕ → WholeFault → Type 0
IsTooWide p limit (TooWide zones) = (zones ≡ counted_zones p) × (limit < zones)
IsTooWide p limit OutOfMemory = Unit {0}
IsTooWide p limit NoRoles = ⊥
IsTooWide p limit (InputRole role) = ⊥
