-- The law that relates errors of gaps and overlaps to the faults of tables.
use Rattle.std.specs.Prelude.{◌≡◌, ℕ, ◌-◌, ◌≤◌, ◌<◌, ◌↔◌, List, [], Some, None, Err, slice_get, IsTrue}
use Rattle.tables.specs.declared.environment.Answer.{Answer}
use Rattle.faults.specs.declared.fault.Fault.TheVariants.{NoRule, Clash}
use Rattle.tables.specs.declared.inputs.Slot.{Slot}
use Rattle.tables.specs.declared.table.Table.{Table}
use Rattle.tables.specs.Environment.{number_after, table_value}
use Rattle.tables.specs.Matching.{matching, first_outside}
use Rattle.tables.specs.Plan.{PlanParts}
use Rattle.cutplan.specs.Laws.{MatchTogether}
use Rattle.cutplan.specs.Violations.{gap_is_error, overlap_is_error}

-- if all inputs have allowed values and no rule matches, the table has a `NoRule` fault if and only
-- if its gaps are errors
abbrev pub ReportsGap : PlanParts → Table → List Slot → List (List Answer) → Type 0
ReportsGap p t given earlier =
    first_outside given earlier t ≡ None → matching given earlier t ≡ []
    → (table_value given earlier t ≡ Err (NoRule (number_after earlier))) ↔ IsTrue (gap_is_error p (number_after earlier))

-- if two rules match whose overlap is an error, the table has a `Clash` fault
abbrev pub ReportsOverlap : PlanParts → Table → List Slot → List (List Answer) → ℕ → ℕ → Type 0
ReportsOverlap p t given earlier first second =
    MatchTogether given earlier t first second → IsTrue (overlap_is_error p (number_after earlier) first second)
    → table_value given earlier t ≡ Err (Clash (number_after earlier))

-- two rules that both match and whose overlap is an error, the smaller number first
pub record ViolatingPair (p : PlanParts) (t : Table) (given : List Slot) (earlier : List (List Answer)) : Type 0 where
  pub first : ℕ
  pub second : ℕ
  pub low : 1 ≤ first
  pub less : first < second
  pub together : MatchTogether given earlier t first second
  pub violates : IsTrue (overlap_is_error p (number_after earlier) first second)

-- if the table has a `Clash` fault, there is such a pair of rules
abbrev pub ReportsClash : PlanParts → Table → List Slot → List (List Answer) → Type 0
ReportsClash p t given earlier = table_value given earlier t ≡ Err (Clash (number_after earlier)) → ViolatingPair p t given earlier

-- the three laws of one table, for each pair of rules with the smaller number first
pub record ReportsErrors (p : PlanParts) (t : Table) (given : List Slot) (earlier : List (List Answer)) : Type 0 where
  pub gap : ReportsGap p t given earlier
  pub clash : ReportsClash p t given earlier
  pub overlap : (first second : ℕ) → 1 ≤ first → first < second → ReportsOverlap p t given earlier first second

-- the laws of every table of a plan, for all answers of the tables before it
abbrev pub ErrorsAreFaults : Type 0
ErrorsAreFaults = (p : PlanParts) (t : Table) (given : List Slot) (earlier : List (List Answer)) → slice_get p.tables (number_after earlier - 1) ≡ Some t
    → ReportsErrors p t given earlier
