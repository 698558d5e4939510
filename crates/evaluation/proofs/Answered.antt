-- If a plan's tables have a value, each of their outputs has an answer.
use Rattle.std.proofs.Common.{◌≡◌, ℕ, zero, suc, ◌<◌, nat_le, ℤ, ◌+ℤ◌, not, Bool, true, false, cond, ◌==◌, ◌&&◌, List, [], ◌∷◌, ◌++◌, length, Option, Some, None, Result, Ok, Err, is_some, slice_get, refl, ap, sym, subst, ◌∙◌, inl, inr, arith}
use Rattle.std.specs.List.{list_all, filter, filter_map, cons_option, find, position, position_or_len, range_with_len, reduce, list_any}
use Rattle.std.specs.Int.{int_min, int_max}
use Rattle.std.specs.Option.{option_map_or}
use Rattle.std.specs.Str.{bytes_eq}
use Rattle.std.proofs.lemmas.Bool.{false≢true, eqb-true, and_parts, cases_Bool, lt-ltb}
use Rattle.std.proofs.lemmas.List.{length-map, append-nil, append_assoc}
use Rattle.std.proofs.lemmas.List.FromFn.{length-map-range_with_len}
use Rattle.std.proofs.lemmas.Option.{none-some, same_Some}
use Rattle.std.proofs.lemmas.Slice.Eq.{bytes_eq-Decides}
use Rattle.std.specs.Int.RustNames.{unsigned_abs}
use Rattle.fixpoint.specs.Number.{greatest_units}
use Rattle.feel_tests.specs.declared.kind.Kind.TheVariants as kinds
use Rattle.feel_tests.specs.declared.value.Value.{Value}
use Rattle.feel_tests.specs.declared.value.Value.TheVariants.{Number}
use Rattle.tables.specs.declared.environment.Answer.{Answer}
use Rattle.tables.specs.declared.environment.Answer.TheVariants.{One, Many}
use Rattle.faults.specs.declared.fault.Fault.{Fault}
use Rattle.tables.specs.declared.hit.Hit.{Hit}
use Rattle.tables.specs.declared.hit.Hit.TheVariants as hits
use Rattle.tables.specs.declared.inputs.Slot.{Slot}
use Rattle.tables.specs.declared.table.Output.{Output}
use Rattle.tables.specs.declared.table.Rule.{Rule}
use Rattle.tables.specs.declared.table.Table.{Table}
use Rattle.tables.specs.Environment.{Environment, env, answers_of, and_then, inside, number_after, table_value, answer_in, answer_of, or_else}
use Rattle.tables.specs.HitPolicy.{TableValue, ones, lists, column_of, no_match_value, unique, any, agree, of_rule, numbers_of, number_answer, aggregate_value, count_units, match_count, by_hit}
use Rattle.tables.specs.Matching.{matching, rule_matches, cells_hold, first_outside}
use Rattle.tables.specs.Plan.{PlanParts, IsPlan, rule_fits, satisfies_constraints, same_kind}
use Rattle.tables.specs.Priority.{entries_of, highest_rule, in_priority_order, precedes}
use Rattle.evaluation.specs.ValueText.{AreAnswered}

-- the value of a table with these answers
abbrev value_of : List Answer → TableValue
value_of answers = Ok answers

-- the value of the tables with the answers of an environment
abbrev answers_value : Environment → Result (List (List Answer)) Fault
answers_value e = Ok e.answers

-- there is one answer for each output
abbrev IsWhole : Table → List Answer → Type 0
IsWhole t answers = length answers ≡ length t.outputs

-- each of these rules has one entry for each output
abbrev AreWhole : Table → List ℕ → Type 0
AreWhole t [] = Unit {0}
AreWhole t (rule ∷ rules) = (length (entries_of t rule) ≡ length t.outputs) × AreWhole t rules

-- each rule that fits its table has one entry for each output
entries_fit : (t : Table) (rules : List Rule) (place : ℕ) → list_all (rule_fits t) rules ≡ true → is_some (slice_get rules place) ≡ true
    → length (option_map_or (λ (r : Rule). r.entries) (slice_get rules place) []) ≡ length t.outputs
entries_fit t [] place fits some = absurd (false≢true some)
entries_fit t (r ∷ rs) zero fits some =
    let this = (and_parts (rule_fits t r) (list_all (rule_fits t) rs) fits).0 in
    let following = (and_parts (length r.cells == length t.inputs) _ this).1 in
    eqb-true (length r.entries) (length t.outputs) (and_parts (length r.entries == length t.outputs) _ following).0
entries_fit t (r ∷ rs) (suc place) fits some = entries_fit t rs place (and_parts (rule_fits t r) (list_all (rule_fits t) rs) fits).1 some

matches_some : (test : Rule → Bool) (o : Option Rule) → option_map_or test o false ≡ true → is_some o ≡ true
matches_some test None matches = absurd (false≢true matches)
matches_some test (Some r) matches = refl

filtered_whole : (t : Table) (test : ℕ → Bool) → ((rule : ℕ) → test rule ≡ true → length (entries_of t rule) ≡ length t.outputs) → (rules : List ℕ) → AreWhole t (filter test rules)
filtered_whole t test fits [] = tt
filtered_whole t test fits (rule ∷ rules) =
    elim (cases_Bool (test rule)) [
      | inl passes ↦ rw passes (fits rule passes, filtered_whole t test fits rules)
      | inr fails ↦ rw fails (filtered_whole t test fits rules)
    ]

matching_whole : (given : List Slot) (earlier : List (List Answer)) (t : Table) → list_all (rule_fits t) t.rules ≡ true → AreWhole t (matching given earlier t)
matching_whole given earlier t fits =
    filtered_whole t (rule_matches given earlier t)
    (λ rule matches. entries_fit t t.rules rule fits (matches_some (λ r. cells_hold given earlier t.inputs r.cells) (slice_get t.rules rule) matches))
    (range_with_len 0 (length t.rules))

-- single values give one answer for each output
ones_whole : (t : Table) (values : List Value) (answers : List Answer) → length values ≡ length t.outputs → value_of (ones values) ≡ Ok answers → IsWhole t answers
ones_whole t values answers whole same =
    let equal : ones values ≡ answers = cc in
    ap length (sym equal) ∙ length-map values (λ (value : Value). One value) ∙ whole

defaults_whole : (outputs : List Output) → list_all (λ (o : Output). is_some o.fallback) outputs ≡ true → length (filter_map (λ (o : Output). o.fallback) outputs) ≡ length outputs
defaults_whole [] all = refl
defaults_whole (o ∷ os) all =
    let both = and_parts (is_some o.fallback) (list_all (λ (x : Output). is_some x.fallback) os) all in
    default_here o.fallback both.0 (defaults_whole os both.1) where
      default_here : (fallback : Option Value) → is_some fallback ≡ true → length (filter_map (λ (x : Output). x.fallback) os) ≡ length os
          → length (cons_option fallback (filter_map (λ (x : Output). x.fallback) os)) ≡ suc (length os)
      default_here None some whole = absurd (false≢true some)
      default_here (Some value) some whole = ap suc whole

unmatched_whole : (number : ℕ) (t : Table) (answers : List Answer) → no_match_value number t ≡ Ok answers → IsWhole t answers
unmatched_whole number t answers same =
    elim (cases_Bool (list_all (λ (o : Output). is_some o.fallback) t.outputs)) [
      | inl all ↦ ones_whole t _ answers (defaults_whole t.outputs all) (rw all at same)
      | inr not_all ↦ absurd (let wrong = rw not_all at same in cc)
    ]

found_whole : (t : Table) (test : ℕ → Bool) (rules : List ℕ) (rule : ℕ) → AreWhole t rules → find test rules ≡ Some rule → length (entries_of t rule) ≡ length t.outputs
found_whole t test [] rule whole found = absurd (none-some rule found)
found_whole t test (r ∷ rs) rule whole found =
    elim (cases_Bool (test r)) [
      | inl passes ↦ let here : r ≡ rule = same_Some r rule (rw passes at found) in subst (λ n. length (entries_of t n) ≡ length t.outputs) here whole.0
      | inr fails ↦ found_whole t test rs rule whole.1 (rw fails at found)
    ]

of_rule_whole : (number : ℕ) (t : Table) (rule : Option ℕ) (answers : List Answer) → ((r : ℕ) → rule ≡ Some r → length (entries_of t r) ≡ length t.outputs)
    → of_rule number t rule ≡ Ok answers → IsWhole t answers
of_rule_whole number t None answers fits same = unmatched_whole number t answers same
of_rule_whole number t (Some r) answers fits same = ones_whole t _ answers (fits r refl) same

unique_whole : (number : ℕ) (t : Table) (rules : List ℕ) (answers : List Answer) → AreWhole t rules → unique number t rules ≡ Ok answers → IsWhole t answers
unique_whole number t [] answers whole same = unmatched_whole number t answers same
unique_whole number t (r ∷ []) answers whole same = ones_whole t _ answers whole.0 same
unique_whole number t (r ∷ other ∷ others) answers whole same = absurd (cc)

any_whole : (number : ℕ) (t : Table) (rules : List ℕ) (answers : List Answer) → AreWhole t rules → any number t rules ≡ Ok answers → IsWhole t answers
any_whole number t [] answers whole same = unmatched_whole number t answers same
any_whole number t (r ∷ rs) answers whole same =
    elim (cases_Bool (list_all (agree t r) rs)) [
      | inl all ↦ ones_whole t _ answers whole.0 (rw all at same)
      | inr not_all ↦ absurd (let wrong = rw not_all at same in cc)
    ]

first_whole : (t : Table) (rules : List ℕ) (r : ℕ) → AreWhole t rules → slice_get rules 0 ≡ Some r → length (entries_of t r) ≡ length t.outputs
first_whole t [] r whole found = absurd (none-some r found)
first_whole t (x ∷ xs) r whole found = subst (λ n. length (entries_of t n) ≡ length t.outputs) (same_Some x r found) whole.0

lists_whole : (t : Table) (rules : List ℕ) (answers : List Answer) → value_of (lists t rules) ≡ Ok answers → IsWhole t answers
lists_whole t rules answers same =
    let equal : lists t rules ≡ answers = cc in
    ap length (sym equal) ∙ length-map-range_with_len (λ column. Many (column_of t rules column)) 0 (length t.outputs)

-- an aggregating hit policy gives one answer, for its one output
number_whole : (number : ℕ) (t : Table) (units : ℤ) (answers : List Answer) → length t.outputs ≡ 1 → number_answer number units ≡ Ok answers → IsWhole t answers
number_whole number t units answers one same =
    elim (cases_Bool (nat_le (unsigned_abs units) greatest_units)) [
      | inl within ↦ let equal : One (Number units) ∷ [] ≡ answers = (let here = rw within at same in cc) in ap length (sym equal) ∙ sym one
      | inr beyond ↦ absurd (let wrong = rw beyond at same in cc)
    ]

aggregated_whole : (number : ℕ) (t : Table) (units : Option ℤ) (answers : List Answer) → length t.outputs ≡ 1 → aggregate_value number t units ≡ Ok answers → IsWhole t answers
aggregated_whole number t None answers one same = unmatched_whole number t answers same
aggregated_whole number t (Some units) answers one same = number_whole number t units answers one same

counted_whole : (number : ℕ) (t : Table) (rules : List ℕ) (answers : List Answer) → length t.outputs ≡ 1 → match_count number t rules ≡ Ok answers → IsWhole t answers
counted_whole number t [] answers one same = unmatched_whole number t answers same
counted_whole number t (r ∷ rs) answers one same = number_whole number t (count_units (length (r ∷ rs))) answers one same

abbrev are_numbers : Table → Bool
are_numbers t = list_all (λ (o : Output). same_kind o.kind kinds.Number) t.outputs

one_output : (t : Table) (rest : Bool) → (length t.outputs == 1 && rest) ≡ true → length t.outputs ≡ 1
one_output t rest demand = eqb-true (length t.outputs) 1 (and_parts (length t.outputs == 1) rest demand).0

by_hit_whole : (hit : Hit) (number : ℕ) (t : Table) (rules : List ℕ) (answers : List Answer) → AreWhole t rules → satisfies_constraints hit t.outputs ≡ true → by_hit hit number t rules ≡ Ok answers → IsWhole t answers
by_hit_whole hits.U number t rules answers whole demand same = unique_whole number t rules answers whole same
by_hit_whole hits.A number t rules answers whole demand same = any_whole number t rules answers whole same
by_hit_whole hits.P number t rules answers whole demand same = of_rule_whole number t (highest_rule t rules) answers (λ r found. found_whole t (λ rule. not (list_any (λ other. precedes t other rule) rules)) rules r whole found) same
by_hit_whole hits.F number t rules answers whole demand same = of_rule_whole number t (slice_get rules 0) answers (λ r found. first_whole t rules r whole found) same
by_hit_whole hits.O number t rules answers whole demand same = lists_whole t (in_priority_order t rules) answers same
by_hit_whole hits.R number t rules answers whole demand same = lists_whole t rules answers same
by_hit_whole hits.C number t rules answers whole demand same = lists_whole t rules answers same
by_hit_whole hits.Sum number t rules answers whole demand same = aggregated_whole number t (reduce ◌+ℤ◌ (numbers_of t rules)) answers (one_output t (are_numbers t) demand) same
by_hit_whole hits.Min number t rules answers whole demand same = aggregated_whole number t (reduce int_min (numbers_of t rules)) answers (one_output t (are_numbers t) demand) same
by_hit_whole hits.Max number t rules answers whole demand same = aggregated_whole number t (reduce int_max (numbers_of t rules)) answers (one_output t (are_numbers t) demand) same
by_hit_whole hits.Count number t rules answers whole demand same = counted_whole number t rules answers (eqb-true (length t.outputs) 1 demand) same

inside_value : (outside : Option ℕ) (number : ℕ) (value : TableValue) (answers : List Answer) → inside outside number value ≡ Ok answers → value ≡ Ok answers
inside_value None number value answers same = same
inside_value (Some column) number value answers same = absurd (cc)

table_whole : (given : List Slot) (earlier : List (List Answer)) (t : Table) (answers : List Answer) → list_all (rule_fits t) t.rules ≡ true → satisfies_constraints t.hit t.outputs ≡ true
    → table_value given earlier t ≡ Ok answers → IsWhole t answers
table_whole given earlier t answers fits demand same =
    by_hit_whole t.hit (number_after earlier) t (matching given earlier t) answers (matching_whole given earlier t fits) demand
    (inside_value (first_outside given earlier t) (number_after earlier) _ answers same)

-- each table has one answer for each output
abbrev AllWhole : List Table → List (List Answer) → Type 0
AllWhole [] [] = Unit {0}
AllWhole (t ∷ ts) (answers ∷ more) = IsWhole t answers × AllWhole ts more
AllWhole _ _ = ⊥

step_value : {X : Type 0} (outcome : TableValue) (next : List Answer → Result X Fault) (x : X) → and_then outcome next ≡ Ok x → (answers : List Answer) × (outcome ≡ Ok answers) × (next answers ≡ Ok x)
step_value (Ok answers) next x same = (answers, refl, same)
step_value (Err fault) next x same = absurd (cc)

answers_whole : (given : List Slot) (earlier : List (List Answer)) (tables : List Table) (all : List (List Answer)) → list_all (λ (t : Table). list_all (rule_fits t) t.rules) tables ≡ true
    → list_all (λ (t : Table). satisfies_constraints t.hit t.outputs) tables ≡ true → answers_of given earlier tables ≡ Ok all → (more : List (List Answer)) × (all ≡ earlier ++ more) × AllWhole tables more
answers_whole given earlier [] all fits demands same = ([], (let equal : earlier ≡ all = cc in sym equal ∙ sym (append-nil earlier)), tt)
answers_whole given earlier (t ∷ ts) all fits demands same =
    let fit = and_parts (list_all (rule_fits t) t.rules) (list_all (λ (x : Table). list_all (rule_fits x) x.rules) ts) fits in
    let demand = and_parts (satisfies_constraints t.hit t.outputs) (list_all (λ (x : Table). satisfies_constraints x.hit x.outputs) ts) demands in
    let step = step_value (table_value given earlier t) _ all same in
    let rest = answers_whole given (earlier ++ step.0 ∷ []) ts all fit.1 demand.1 step.2 in
    (step.0 ∷ rest.0, rest.1 ∙ append_assoc earlier (step.0 ∷ []) rest.0, (table_whole given earlier t step.0 fit.0 demand.0 step.1, rest.2))

-- if some output has a name, the first output with this name is within the list
named_within : (outputs : List Output) (place : ℕ) (o : Output) → slice_get outputs place ≡ Some o → position_or_len (λ (x : Output). bytes_eq x.name o.name) outputs < length outputs
named_within [] place o present = absurd (none-some o present)
named_within (x ∷ xs) zero o present =
    let same : bytes_eq x.name o.name ≡ true = (bytes_eq-Decides x.name o.name).1 (ap (λ (p : Output). p.name) (same_Some x o present)) in
    rw same (omega arith)
named_within (x ∷ xs) (suc place) o present =
    let following = named_within xs place o present in
    elim (cases_Bool (bytes_eq x.name o.name)) [
      | inl same ↦ rw same (omega arith)
      | inr other ↦ rw other (omega (arith, following))
    ]

within_some : (answers : List Answer) (place : ℕ) → place < length answers → is_some (slice_get answers place) ≡ true
within_some [] place within = absurd (omega arith)
within_some (a ∷ more) zero within = refl
within_some (a ∷ more) (suc place) within = within_some more place (omega arith)

answered_here : (outputs : List Output) (answers : List Answer) (place : ℕ) (o : Output) → length answers ≡ length outputs → slice_get outputs place ≡ Some o
    → is_some (answer_in outputs answers o.name) ≡ true
answered_here outputs answers place o whole present =
    let within = named_within outputs place o present in
    let found : position (λ (x : Output). bytes_eq x.name o.name) outputs ≡ Some (position_or_len (λ (x : Output). bytes_eq x.name o.name) outputs) =
    ap (λ test. cond test (Some (position_or_len (λ (x : Output). bytes_eq x.name o.name) outputs)) None) (lt-ltb _ _ within) in
    rw found (within_some answers _ (omega (arith, within, whole)))

first_some : (o p : Option Answer) → is_some o ≡ true → is_some (or_else o p) ≡ true
first_some None p some = absurd (false≢true some)
first_some (Some a) p some = refl

second_some : (o p : Option Answer) → is_some p ≡ true → is_some (or_else o p) ≡ true
second_some None p some = some
second_some (Some a) p some = refl

answered : (tables : List Table) (all : List (List Answer)) (table place : ℕ) (t : Table) (o : Output) → AllWhole tables all → slice_get tables table ≡ Some t → slice_get t.outputs place ≡ Some o
    → is_some (answer_of tables all o.name) ≡ true
answered [] all table place t o whole at present = absurd (none-some t at)
answered (x ∷ xs) [] table place t o whole at present = absurd whole
answered (x ∷ xs) (answers ∷ more) zero place t o whole at present =
    let here : slice_get x.outputs place ≡ Some o = subst (λ (y : Table). slice_get y.outputs place ≡ Some o) (sym (same_Some x t at)) present in
    first_some _ _ (answered_here x.outputs answers place o whole.0 here)
answered (x ∷ xs) (answers ∷ more) (suc table) place t o whole at present =
    second_some _ _ (answered xs more table place t o whole.1 at present)

env_parts : (plan : PlanParts) (given : List Slot) (values : Environment) (r : Result (List (List Answer)) Fault) → answers_of given [] plan.tables ≡ r → env plan given ≡ Ok values
    → (values.tables ≡ plan.tables) × (r ≡ Ok values.answers)
env_parts plan given values (Ok answers) is same =
    let value : env plan given ≡ Ok (record { tables = plan.tables; answers = answers }) = rw is refl in
    let equal : record { tables = plan.tables; answers = answers } ≡ values = cc in
    (ap (λ (e : Environment). e.tables) (sym equal), ap answers_value equal)
env_parts plan given values (Err fault) is same =
    let value : env plan given ≡ Err fault = rw is refl in
    absurd (cc)

-- if the tables have a value, each output has an answer
pub AreAnswered-from_env : (plan : PlanParts) (given : List Slot) (values : Environment) → IsPlan plan → env plan given ≡ Ok values → AreAnswered values plan.tables
AreAnswered-from_env plan given values sound same table place t o at present =
    let parts = env_parts plan given values _ refl same in
    let all = answers_whole given [] plan.tables values.answers sound.rules sound.demands parts.1 in
    let whole : AllWhole plan.tables values.answers = subst (AllWhole plan.tables) (sym all.1) all.2 in
    subst (λ tables. is_some (answer_of tables values.answers o.name) ≡ true) (sym parts.0) (answered plan.tables values.answers table place t o whole at present)
