-- The names of a plan that are amounts of money, and the regions that contain an amount of money.
use Rattle.std.specs.Prelude.{ℕ, ◌+◌, ◌*◌, ◌/◌, ◌-◌, ◌==◌, ◌&&◌, ◌||◌, nat_le, ℤ, pos, negsuc, int_lt, int_le, Option, Some, None, Bool, true, false, not, length, if◌then◌else◌}
use Rattle.fixpoint.specs.Money.{is_money}
use Rattle.fixpoint.specs.Number.{greatest_units}
use Rattle.feel_tests.specs.declared.kind.Kind.TheVariants as kinds
use Rattle.feel_tests.specs.declared.value.Value.{Value}
use Rattle.feel_tests.specs.declared.value.Value.TheVariants.{Number}
use Rattle.tables.specs.Plan.{PlanParts, keeps_families, same_kind}
use Rattle.regions.specs.declared.region.Region.{Region}
use Rattle.regions.specs.declared.region.Region.TheVariants.{Below, At, Between, Above, Every}
use Rattle.cutplan.specs.InputClasses.{name_kind}
use Rattle.regions.specs.Regions.{has_value}
use Rattle.regions.specs.Values.{is_value}

-- the name at this index is the billed amount or an accumulator: the last name before the fields, or
-- one of the names after them
abbrev pub is_amount_name : PlanParts → ℕ → Bool
is_amount_name p name = if keeps_families p then (name == 4) || nat_le (length p.names - name) 5 else (name == 3) || nat_le (length p.names - name) 3

-- the values of the name are amounts of money
abbrev pub is_amount : PlanParts → ℕ → Bool
is_amount p name = same_kind (name_kind p name) kinds.Number && is_amount_name p name

-- the value is an amount of money
abbrev pub is_money_value : Value → Bool
is_money_value (Number units) = is_money units
is_money_value _ = false

-- the least amount of money above these units
abbrev pub money_above : ℤ → ℤ
money_above (pos n) = pos ((n / 100 + 1) * 100)
money_above (negsuc n) = pos 0

-- the units are less than the number
abbrev pub is_below : ℤ → Value → Bool
is_below units (Number high) = int_lt units high
is_below units _ = false

-- the units are below the limit, if there is one
abbrev pub is_within : Option Value → ℤ → Bool
is_within None units = true
is_within (Some high) units = is_below units high

-- there is an amount of money above the number and below the limit
abbrev pub has_money_above : Value → Option Value → Bool
has_money_above (Number low) high = int_le (money_above low) (pos greatest_units) && is_within high (money_above low)
has_money_above _ high = false

-- the region contains an amount of money
abbrev pub has_money : Region → Bool
has_money (Below high) = is_below (pos 0) high
has_money (At v) = is_money_value v
has_money (Between low high) = has_money_above low (Some high)
has_money (Above low) = has_money_above low None
has_money Every = true
has_money _ = false

-- a claim or its accumulators can give the name this value: one of its kind, and an amount of money if
-- the name is an amount
abbrev pub is_possible : PlanParts → ℕ → Value → Bool
is_possible p name v = is_value (name_kind p name) v && (not (is_amount p name) || is_money_value v)

-- the region contains a value, and an amount of money if the name is an amount
abbrev pub is_possible_region : Bool → Region → Bool
is_possible_region amount r = has_value r && (not amount || has_money r)
