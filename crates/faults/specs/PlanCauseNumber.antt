-- The causes of errors in a plan, by number.
use Rattle.std.specs.Prelude.{ℕ}
use Rattle.faults.specs.declared.plan_fault.PlanCause.{PlanCause}
use Rattle.faults.specs.declared.plan_fault.PlanCause.TheVariants.{Toml, Missing, Unknown, Duplicate, Kind, Hit, Priority, Role, Money, Limit, Cell, OutOfMemory}

-- the number that messages print for a cause
abbrev pub number_of : PlanCause → ℕ
number_of Toml = 1
number_of Missing = 2
number_of Unknown = 3
number_of Duplicate = 4
number_of Kind = 5
number_of Hit = 6
number_of Priority = 7
number_of Role = 8
number_of Money = 9
number_of Limit = 10
number_of (Cell fault) = 11
number_of OutOfMemory = 12
