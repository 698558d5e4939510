-- The value of a table by its hit policy, from the rules that match (DMN 1.4, hit policies). Rules
-- are numbered from 0, tables from 1.
use Rattle.std.specs.Prelude.{◌≡◌, ◌≢◌, MatchResult, ℕ, nat_le, ℤ, pos, neg_ℤ, ◌≤ℤ◌, ◌^◌, ◌+ℤ◌, ◌*◌, Bool, List, [], ◌∷◌, length, map, Option, Some, None, is_some, slice_get, Result, Ok, Err, if◌then◌else◌}
use Rattle.std.specs.List.{list_all, filter_map, range_with_len, reduce}
use Rattle.std.specs.Option.{option_and_then}
use Rattle.std.specs.Int.{int_min, int_max}
use Rattle.std.specs.Int.RustNames.{unsigned_abs}
use Rattle.std.specs.Cmp.Lexicographic.{pointwise}
use Rattle.fixpoint.specs.Number.{greatest_units}
use Rattle.feel_tests.specs.declared.value.Value.{Value}
use Rattle.feel_tests.specs.declared.value.Value.TheVariants.{Number}
use Rattle.feel_tests.specs.Holds.{is_equal}
use Rattle.tables.specs.declared.environment.Answer.{Answer}
use Rattle.tables.specs.declared.environment.Answer.TheVariants.{One, Many}
use Rattle.faults.specs.declared.fault.Fault.{Fault}
use Rattle.faults.specs.declared.fault.Fault.TheVariants.{NoRule, Clash, Range, OutOfMemory}
use Rattle.tables.specs.declared.evaluation.numbers.Aggregator.{Aggregator}
use Rattle.tables.specs.declared.evaluation.numbers.Aggregator.TheVariants as aggregators
use Rattle.tables.specs.declared.hit.Hit.{Hit}
use Rattle.tables.specs.declared.hit.Hit.TheVariants as hits
use Rattle.tables.specs.declared.table.Table.{Table}
use Rattle.tables.specs.Priority.{entries_of, highest_rule, in_priority_order}

-- unless memory ran out, the fault is the expected one
abbrev pub IsFaultOf : {X : Type 0} → Result X Fault → Fault → Type 0
IsFaultOf expected fault = fault ≢ OutOfMemory → expected ≡ Err fault

-- an answer for each output of a table, or the fault
abbrev pub TableValue : Type 0
TableValue = Result (List Answer) Fault

-- these values, one for each output
abbrev pub ones : List Value → List Answer
ones values = map (λ value. One value) values

-- the entries of these rules for one output
abbrev pub column_of : Table → List ℕ → ℕ → List Value
column_of t rules column = filter_map (λ rule. slice_get (entries_of t rule) column) rules

-- for each output, the list of the entries of these rules
abbrev pub lists : Table → List ℕ → List Answer
lists t rules = map (λ column. Many (column_of t rules column)) (range_with_len 0 (length t.outputs))

-- no rule matches: the defaults if every output has one, and otherwise a fault
abbrev pub no_match_value : ℕ → Table → TableValue
no_match_value number t =
    if list_all (λ o. is_some o.fallback) t.outputs then Ok (ones (filter_map (λ o. o.fallback) t.outputs)) else Err (NoRule number)

-- Unique: the entries of the only match; two or more matches clash
abbrev pub unique : ℕ → Table → List ℕ → TableValue
unique number t [] = no_match_value number t
unique number t (rule ∷ []) = Ok (ones (entries_of t rule))
unique number t (rule ∷ other ∷ others) = Err (Clash number)

-- two rules have the same entries
abbrev pub agree : Table → ℕ → ℕ → Bool
agree t rule other = pointwise is_equal (entries_of t rule) (entries_of t other)

-- Any: the entries of the matches if all agree; matches that disagree clash
abbrev pub any : ℕ → Table → List ℕ → TableValue
any number t [] = no_match_value number t
any number t (rule ∷ others) = if list_all (agree t rule) others then Ok (ones (entries_of t rule)) else Err (Clash number)

-- the entries of one rule, if there is one
abbrev pub of_rule : ℕ → Table → Option ℕ → TableValue
of_rule number t None = no_match_value number t
of_rule number t (Some rule) = Ok (ones (entries_of t rule))

-- First: the entries of the first match
abbrev pub first : ℕ → Table → List ℕ → TableValue
first number t rules = of_rule number t (slice_get rules 0)

-- the units of a number
abbrev pub units_of : Value → Option ℤ
units_of (Number units) = Some units
units_of _ = None

-- the units of a rule's entry for the first output
abbrev pub number_in : Table → ℕ → Option ℤ
number_in t rule = option_and_then units_of (slice_get (entries_of t rule) 0)

-- the units of these rules' entries for the first output
abbrev pub numbers_of : Table → List ℕ → List ℤ
numbers_of t rules = filter_map (number_in t) rules

-- a number as the only answer, if it is in range
abbrev pub number_answer : ℕ → ℤ → TableValue
number_answer number units = if nat_le (unsigned_abs units) greatest_units then Ok (One (Number units) ∷ []) else Err (Range number)

-- the operation of an aggregator
abbrev pub join_of : Aggregator → ℤ → ℤ → ℤ
join_of aggregators.Sum = ◌+ℤ◌
join_of aggregators.Min = int_min
join_of aggregators.Max = int_max

-- an aggregate with one more number, if there is one
abbrev pub combine : (ℤ → ℤ → ℤ) → Option ℤ → Option ℤ → Option ℤ
combine join so_far None = so_far
combine join None (Some units) = Some units
combine join (Some so_far) (Some units) = Some (join so_far units)

-- an aggregate to which any number can be added within 128 bits
abbrev pub IsFarFromOverflow : ℤ → Type 0
IsFarFromOverflow sum = (neg_ℤ (pos (2 ^ 126)) ≤ℤ sum) × (sum ≤ℤ pos (2 ^ 126))

-- the aggregate of the matches' numbers; without any, no rule matches
abbrev pub aggregate_value : ℕ → Table → Option ℤ → TableValue
aggregate_value number t None = no_match_value number t
aggregate_value number t (Some units) = number_answer number units

-- the units of a count
abbrev pub count_units : ℕ → ℤ
count_units count = pos (count * 10000)

-- `C#`: the number of matching rules
abbrev pub match_count : ℕ → Table → List ℕ → TableValue
match_count number t [] = no_match_value number t
match_count number t (rule ∷ others) = number_answer number (count_units (length (rule ∷ others)))

-- the value of a table by its hit policy, from the rules that match
abbrev pub by_hit : Hit → ℕ → Table → List ℕ → TableValue
by_hit hits.U number t rules = unique number t rules
by_hit hits.A number t rules = any number t rules
by_hit hits.P number t rules = of_rule number t (highest_rule t rules)
by_hit hits.F number t rules = first number t rules
by_hit hits.O number t rules = Ok (lists t (in_priority_order t rules))
by_hit hits.R number t rules = Ok (lists t rules)
by_hit hits.C number t rules = Ok (lists t rules)
by_hit hits.Sum number t rules = aggregate_value number t (reduce ◌+ℤ◌ (numbers_of t rules))
by_hit hits.Min number t rules = aggregate_value number t (reduce int_min (numbers_of t rules))
by_hit hits.Max number t rules = aggregate_value number t (reduce int_max (numbers_of t rules))
by_hit hits.Count number t rules = match_count number t rules

-- unless memory ran out, the result is the expected one
abbrev pub Gives : {X : Type 0} → Result X Fault → Result X Fault → Type 0
Gives expected result = MatchResult result (λ x. expected ≡ Ok x) (IsFaultOf expected)
