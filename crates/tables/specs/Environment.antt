-- The value of a plan's tables, one after another.
use Rattle.std.specs.Prelude.{ℕ, ◌+◌, List, [], ◌∷◌, ◌++◌, length, position, Option, Some, None, slice_get, Result, Ok, Err}
use Rattle.std.specs.Option.{option_and_then}
use Rattle.std.specs.Str.{bytes_eq}
use Rattle.tables.specs.declared.environment.Answer.{Answer}
use Rattle.faults.specs.declared.fault.Fault.{Fault}
use Rattle.faults.specs.declared.fault.Fault.TheVariants.{Outside}
use Rattle.tables.specs.declared.inputs.Slot.{Slot}
use Rattle.tables.specs.declared.output_place.OutputPlace.{OutputPlace}
use Rattle.tables.specs.declared.table.Output.{Output}
use Rattle.tables.specs.declared.table.Table.{Table}
use Rattle.tables.specs.Plan.{PlanParts}
use Rattle.tables.specs.Matching.{matching, first_outside}
use Rattle.tables.specs.HitPolicy.{TableValue, by_hit}

-- the number of the table that follows these
abbrev pub number_after : List (List Answer) → ℕ
number_after earlier = length earlier + 1

-- the value of a table; if a column is outside its allowed values, that fault comes first
abbrev pub inside : Option ℕ → ℕ → TableValue → TableValue
inside None number value = value
inside (Some column) number value = Err (Outside number (column + 1))

-- the value of a table, by the given values and the answers of the tables before it
abbrev pub table_value : List Slot → List (List Answer) → Table → TableValue
table_value given earlier t =
    inside (first_outside given earlier t) (number_after earlier) (by_hit t.hit (number_after earlier) t (matching given earlier t))

-- continues with the answers of a table, or ends with its fault
abbrev pub and_then : {X : Type 0} → TableValue → (List Answer → Result X Fault) → Result X Fault
and_then (Ok answers) next = next answers
and_then (Err fault) next = Err fault

-- the answers of tables in order, each by the given values and the answers before it, or the first
-- fault
abbrev pub answers_of : List Slot → List (List Answer) → List Table → Result (List (List Answer)) Fault
answers_of given earlier [] = Ok earlier
answers_of given earlier (t ∷ ts) = and_then (table_value given earlier t) (λ answers. answers_of given (earlier ++ answers ∷ []) ts)

-- tables with their answers, one for each output
pub record Environment : Type 0 where
  pub tables : List Table
  pub answers : List (List Answer)

-- the answers of a plan's tables, or their first fault
abbrev pub env : PlanParts → List Slot → Result Environment Fault
env plan given = with_tables plan.tables (answers_of given [] plan.tables) where
  with_tables : List Table → Result (List (List Answer)) Fault → Result Environment Fault
  with_tables tables (Ok answers) = Ok (record { tables = tables; answers = answers })
  with_tables tables (Err fault) = Err fault

-- the answer of the table's first output with this name
abbrev pub answer_in : List Output → List Answer → List ℕ → Option Answer
answer_in outputs answers name = option_and_then (slice_get answers) (position (λ o. bytes_eq o.name name) outputs)

-- the first value if there is one, and otherwise the second
abbrev pub or_else : {X : Type 0} → Option X → Option X → Option X
or_else (Some x) other = Some x
or_else None other = other

-- the answer of the first output with this name
abbrev pub answer_of : List Table → List (List Answer) → List ℕ → Option Answer
answer_of (t ∷ ts) (answers ∷ more) name = or_else (answer_in t.outputs answers name) (answer_of ts more name)
answer_of _ _ name = None

-- the answer of the output at a place
abbrev pub answer_at : List (List Answer) → OutputPlace → Option Answer
answer_at answers place = option_and_then (λ a. slice_get a place.column) (slice_get answers place.table)
