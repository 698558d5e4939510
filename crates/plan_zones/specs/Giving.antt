-- The rules that give the answers of a table, by its hit policy.
use Rattle.std.specs.Prelude.{ℕ, Bool, false, List, filter, take, Option, slice_get}
use Rattle.std.specs.Option.{option_and_then, option_map_or}
use Rattle.feel_tests.specs.Holds.{is_equal}
use Rattle.feel_tests.specs.declared.value.Value.{Value}
use Rattle.tables.specs.declared.environment.Answer.{Answer}
use Rattle.tables.specs.declared.hit.Hit.{Hit}
use Rattle.tables.specs.declared.hit.Hit.TheVariants as hits
use Rattle.tables.specs.declared.table.Table.{Table}
use Rattle.tables.specs.Matching.{single}
use Rattle.tables.specs.Priority.{entries_of, in_priority_order}

-- the single value of a table's first output
abbrev pub answer_value : List Answer → Option Value
answer_value answers = option_and_then single (slice_get answers 0)

-- the rule's number is the answer of the table
abbrev pub gives_number : Table → List Answer → ℕ → Bool
gives_number t answers rule = option_map_or (λ entry. option_map_or (is_equal entry) (answer_value answers) false) (slice_get (entries_of t rule) 0) false

-- the rules among the matching ones that give the table's answers, or a part of them: the highest in
-- the order of priority, the first, those with the least or the greatest number, and otherwise all
abbrev pub giving : Hit → Table → List ℕ → List Answer → List ℕ
giving hits.P t rules answers = take 1 (in_priority_order t rules)
giving hits.F t rules answers = take 1 rules
giving hits.Min t rules answers = filter (gives_number t answers) rules
giving hits.Max t rules answers = filter (gives_number t answers) rules
giving hits.U t rules answers = rules
giving hits.A t rules answers = rules
giving hits.O t rules answers = rules
giving hits.R t rules answers = rules
giving hits.C t rules answers = rules
giving hits.Sum t rules answers = rules
giving hits.Count t rules answers = rules
