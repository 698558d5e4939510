-- What the command `value` prints for a plan's text and its arguments.
use Rattle.std.specs.Prelude.{◌≡◌, ℕ, ◌++◌, List, [], ◌∷◌, codes, Ok, flat_map, Some, IsSome, slice_get}
use Rattle.std.specs.List.{join_by}
use Rattle.std.specs.Option.{option_map_or}
use Rattle.feel_tests.specs.Value.{literal_text}
use Rattle.tables.specs.declared.environment.Answer.{Answer}
use Rattle.tables.specs.declared.environment.Answer.TheVariants.{One, Many}
use Rattle.tables.specs.declared.inputs.Slot.{Slot}
use Rattle.tables.specs.declared.table.Output.{Output}
use Rattle.tables.specs.declared.table.Table.{Table}
use Rattle.tables.specs.Environment.{Environment, env, answer_of}
use Rattle.tables.specs.Inputs.{IsReady}
use Rattle.tables.specs.Plan.{PlanParts}
use Rattle.dtable.specs.PlanFile.{IsPlanText}
use Rattle.evaluation.specs.Arguments.{Gives}

-- the byte that ends a line
abbrev pub line_end : ℕ
line_end = 10

-- the literal of one value, or the literals of a list in square brackets
abbrev pub answer_text : Answer → List ℕ
answer_text (One value) = literal_text value
answer_text (Many values) = codes "[" ++ (join_by literal_text (codes ", ") values ++ codes "]")

-- the line `NAME = VALUE`
abbrev pub named_line : List ℕ → Answer → List ℕ
named_line name answer = name ++ (codes " = " ++ (answer_text answer ++ line_end ∷ []))

-- the line of an output, with the answer under its name
abbrev pub output_line : Environment → Output → List ℕ
output_line values output = option_map_or (named_line output.name) (answer_of values.tables values.answers output.name) []

-- the lines of a table's outputs, in order
abbrev pub table_lines : Environment → List Output → List ℕ
table_lines values outputs = flat_map (output_line values) outputs

-- the lines of tables, in order
abbrev pub value_lines : Environment → List Table → List ℕ
value_lines values tables = flat_map (λ t. table_lines values t.outputs) tables

-- each output of these tables has an answer
abbrev pub AreAnswered : Environment → List Table → Type 0
AreAnswered values tables =
    (table place : ℕ) (t : Table) (o : Output) → slice_get tables table ≡ Some t → slice_get t.outputs place ≡ Some o
    → IsSome (answer_of values.tables values.answers o.name)

-- the text that `value` prints for a plan and the values that the arguments give
pub record IsTextOf (plan : PlanParts) (arguments : List (List ℕ)) (text : List ℕ) : Type 0 where
  pub given : List Slot
  pub gives : Gives plan.names arguments given
  pub ready : IsReady plan.tables given
  pub values : Environment
  pub valued : env plan given ≡ Ok values
  pub answered : AreAnswered values plan.tables
  pub lines : text ≡ value_lines values plan.tables

-- the text that `value` prints for the plan that the plan's text denotes
pub record IsValueText (plan_text : List ℕ) (arguments : List (List ℕ)) (text : List ℕ) : Type 0 where
  pub plan : PlanParts
  pub spelled : IsPlanText plan_text plan
  pub is_text : IsTextOf plan arguments text
