-- What an explanation says of a plan's tables: the values that each table reads, the rules that match, and the answers.
use Rattle.std.specs.Prelude.{ℕ, ◌+◌, Bool, true, false, List, [], ◌∷◌, ◌++◌, codes, decimal, flat_map, map, take, length, Option, Some, None, Result, Ok, Err}
use Rattle.std.specs.Option.{option_map_or}
use Rattle.faults.specs.declared.fault.Fault.{Fault}
use Rattle.faults.specs.declared.fault.Fault.TheVariants as faults
use Rattle.faults.specs.Reason.{reason_of}
use Rattle.faults.specs.ReasonText.{reason_text}
use Rattle.tables.specs.declared.environment.Answer.{Answer}
use Rattle.tables.specs.declared.hit.Hit.{Hit}
use Rattle.tables.specs.declared.hit.Hit.TheVariants as hits
use Rattle.tables.specs.declared.inputs.Slot.{Slot}
use Rattle.tables.specs.declared.table.Input.{Input}
use Rattle.tables.specs.declared.table.Output.{Output}
use Rattle.tables.specs.declared.table.Table.{Table}
use Rattle.tables.specs.Environment.{number_after, table_value}
use Rattle.tables.specs.HitPolicy.{TableValue}
use Rattle.tables.specs.Matching.{matching, value_read}
use Rattle.tables.specs.Priority.{in_priority_order}
use Rattle.evaluation.specs.ValueText.{answer_text}
use Rattle.explanation.specs.Facts.{FactParts, fact, value_facts}

-- the step of a table
abbrev pub table_step : ℕ → List ℕ
table_step number = codes "table " ++ decimal number

-- the hit policy, as a plan names it
abbrev pub hit_text : Hit → List ℕ
hit_text hits.U = codes "U (unique)"
hit_text hits.A = codes "A (any)"
hit_text hits.P = codes "P (priority)"
hit_text hits.F = codes "F (first)"
hit_text hits.O = codes "O (output order)"
hit_text hits.R = codes "R (rule order)"
hit_text hits.C = codes "C (collect)"
hit_text hits.Sum = codes "C+ (sum)"
hit_text hits.Min = codes "C< (least)"
hit_text hits.Max = codes "C> (greatest)"
hit_text hits.Count = codes "C# (count)"

-- one rule gives the answer: the first one under F, the one of the highest priority under P
abbrev pub takes_one : Hit → Bool
takes_one hits.F = true
takes_one hits.P = true
takes_one _ = false

-- the rules count in the order of their priority
abbrev pub is_ranked : Hit → Bool
is_ranked hits.P = true
is_ranked hits.O = true
is_ranked _ = false

abbrev pub ranked_if : Bool → Table → List ℕ → List ℕ
ranked_if true t rules = in_priority_order t rules
ranked_if false t rules = rules

abbrev pub first_if : Bool → List ℕ → List ℕ
first_if true rules = take 1 rules
first_if false rules = rules

-- of the rules that match, those that give the answer, in the order of the answer
abbrev pub answering : Hit → Table → List ℕ → List ℕ
answering hit t rules = first_if (takes_one hit) (ranked_if (is_ranked hit) t rules)

-- the numbers of rules, from 1
abbrev pub rule_facts : List ℕ → List ℕ → List ℕ → List FactParts
rule_facts step name rules = map (λ rule. fact step name (decimal (rule + 1))) rules

-- the values that the inputs read
abbrev pub read_facts : List ℕ → List Slot → List (List Answer) → List Input → List FactParts
read_facts step given earlier inputs = flat_map (λ input. value_facts step (codes "reads " ++ input.name) (value_read given earlier input.origin)) inputs

-- the answers, by the names of their outputs
abbrev pub answer_facts : List ℕ → List Output → List Answer → List FactParts
answer_facts step (output ∷ outputs) (answer ∷ answers) = fact step (codes "answers " ++ output.name) (answer_text answer) ∷ answer_facts step outputs answers
answer_facts step _ _ = []

-- what would give the table a value
abbrev pub remedy_text : Fault → List ℕ
remedy_text (faults.Outside table column) = codes "allowed values of this column that include the value that it reads"
remedy_text (faults.NoRule table) = codes "a rule that matches the values that the table reads, or a default for each output"
remedy_text (faults.Clash table) = codes "rules of which these values match one, or that agree"
remedy_text (faults.Range table) = codes "entries whose result is in the range of numbers"
remedy_text faults.OutOfMemory = []

-- the fault of a table
abbrev pub fault_facts : List ℕ → Fault → List FactParts
fault_facts step fault =
    fact step (codes "fails by") (option_map_or reason_text (reason_of fault) []) ∷ fact step (codes "needs") (remedy_text fault) ∷ []

-- the value of a table: the rules that give it and the answers, or the fault
abbrev pub result_facts : List ℕ → Table → List ℕ → TableValue → List FactParts
result_facts step t rules (Ok answers) = rule_facts step (codes "rule that gives the answer") (answering t.hit t rules) ++ answer_facts step t.outputs answers
result_facts step t rules (Err fault) = fault_facts step fault

-- the values that a table reads, its hit policy, the rules that match, and its value
abbrev pub facts_of_table : List ℕ → List Slot → List (List Answer) → Table → List FactParts
facts_of_table step given earlier t =
    let rules = matching given earlier t in
    read_facts step given earlier t.inputs
    ++ (fact step (codes "hit policy") (hit_text t.hit)
    ∷ fact step (codes "number of rules that match") (decimal (length rules))
    ∷ (rule_facts step (codes "rule that matches") rules ++ result_facts step t rules (table_value given earlier t)))

-- the facts of a table after those with the earlier answers
abbrev pub table_facts : List Slot → List (List Answer) → Table → List FactParts
table_facts given earlier t = facts_of_table (table_step (number_after earlier)) given earlier t

-- continues with the answers of a table, unless it has a fault
abbrev pub unless_fault : TableValue → (List Answer → List FactParts) → List FactParts
unless_fault (Ok answers) next = next answers
unless_fault (Err fault) next = []

-- the facts of tables in order, up to the first with a fault
abbrev pub tables_facts : List Slot → List (List Answer) → List Table → List FactParts
tables_facts given earlier [] = []
tables_facts given earlier (t ∷ ts) = table_facts given earlier t ++ unless_fault (table_value given earlier t) (λ answers. tables_facts given (earlier ++ answers ∷ []) ts)

-- the value, if there is one
abbrev pub ok_part : {X E : Type 0} → Result X E → Option X
ok_part (Ok x) = Some x
ok_part (Err e) = None
