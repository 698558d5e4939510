-- A plan has the same result for two lists of slots that agree at the places that the plan reads.
use Rattle.std.proofs.Common.{◌≡◌, ◌||◌, ◌&&◌, ℕ, ◌+◌, nat_lt, Bool, true, false, not, cond, if◌then◌else◌, List, [], ◌∷◌, ◌++◌, length, Option, Some, None, slice_get, Result, Ok, Err, refl, ap, sym, ◌∙◌, arith}
use Rattle.std.specs.List.{list_any, position_or_len, range_with_len}
use Rattle.std.specs.Option.{option_map_or}
use Rattle.std.proofs.lemmas.Bool.{eq-eqb, or_left, or_right}
use Rattle.std.proofs.lemmas.List.Elements.{filter_agree}
use Rattle.feel_tests.specs.declared.cell.Cell.{Cell}
use Rattle.feel_tests.specs.declared.value.Value.{Value}
use Rattle.tables.specs.declared.environment.Answer.{Answer}
use Rattle.faults.specs.declared.fault.Fault.{Fault}
use Rattle.tables.specs.declared.inputs.Slot.{Slot}
use Rattle.tables.specs.declared.roles.FamilyRoles.{FamilyRoles}
use Rattle.tables.specs.declared.roles.Roles.{Roles}
use Rattle.tables.specs.declared.roles.Source.{Source}
use Rattle.tables.specs.declared.roles.Source.TheVariants.{Literal, Input as Place, Output}
use Rattle.tables.specs.declared.table.Input.{Input}
use Rattle.tables.specs.declared.table.Origin.{Origin}
use Rattle.tables.specs.declared.table.Origin.TheVariants.{Given, Earlier}
use Rattle.tables.specs.declared.table.Rule.{Rule}
use Rattle.tables.specs.declared.table.Table.{Table}
use Rattle.tables.specs.Environment.{Environment, answers_of, and_then, env, table_value, inside, number_after}
use Rattle.tables.specs.HitPolicy.{TableValue, by_hit}
use Rattle.tables.specs.Inputs.{value_at, reads, needs}
use Rattle.tables.specs.Matching.{value_read, holds_of, cells_hold, rule_matches, matching, is_outside, first_outside}
use Rattle.tables.specs.Plan.{PlanParts}
use Rattle.settlement.specs.declared.acc.Acc.{Acc}
use Rattle.settlement.specs.declared.claim.Claim.{Claim}
use Rattle.settlement.specs.declared.determination.Determination.TheVariants.{Denied}
use Rattle.faults.specs.declared.role.Role.{Role}
use Rattle.settlement.specs.declared.cost_sharing.CostSharing.{CostSharing}
use Rattle.settlement.specs.Bindings.{given_by, values_given}
use Rattle.settlement.specs.Reads.{source_reads, limits_read, roles_read, any_role_reads, is_read, Serves}
use Rattle.settlement.specs.Roles.{value_of, is_true_flag, limits, terms, remarks_of}
use Rattle.settlement.specs.Settlement.{by_roles, by_tables, by_terms, determination_of, outcome, outcome_from}
use Rattle.settlement.proofs.AllBound.{bound_value}

-- two lists of slots have the same value at each place that passes the test
abbrev pub AlikeWhere : (ℕ → Bool) → List Slot → List Slot → Type 0
AlikeWhere test given other = (place : ℕ) → test place ≡ true → value_at given place ≡ value_at other place

-- some input reads the name at the place
abbrev pub any_reads : List Input → ℕ → Bool
any_reads inputs place = list_any (λ i. reads place i.origin) inputs

value_alike : (given other : List Slot) (earlier : List (List Answer)) (o : Origin) → AlikeWhere (λ place. reads place o) given other → value_read given earlier o ≡ value_read other earlier o
value_alike given other earlier (Given p) alike = alike p (eq-eqb p p refl)
value_alike given other earlier (Earlier table column) alike = refl

first_alike : (given other : List Slot) (i : Input) (is : List Input) → AlikeWhere (any_reads (i ∷ is)) given other → AlikeWhere (λ place. reads place i.origin) given other
first_alike given other i is alike place e = alike place (or_left (reads place i.origin) (any_reads is place) e)

rest_alike : (given other : List Slot) (i : Input) (is : List Input) → AlikeWhere (any_reads (i ∷ is)) given other → AlikeWhere (any_reads is) given other
rest_alike given other i is alike place e = alike place (or_right (reads place i.origin) (any_reads is place) e)

cells_alike :
    (given other : List Slot) (earlier : List (List Answer)) (is : List Input) (cs : List Cell) → AlikeWhere (any_reads is) given other
    → cells_hold given earlier is cs ≡ cells_hold other earlier is cs
cells_alike given other earlier [] cs alike = refl
cells_alike given other earlier (i ∷ is) [] alike = refl
cells_alike given other earlier (i ∷ is) (c ∷ cs) alike =
    let here = value_alike given other earlier i.origin (first_alike given other i is alike) in
    let rest = cells_alike given other earlier is cs (rest_alike given other i is alike) in
    ap (λ value. holds_of value c && cells_hold given earlier is cs) here ∙ ap (λ b. holds_of (value_read other earlier i.origin) c && b) rest

rule_alike :
    (given other : List Slot) (earlier : List (List Answer)) (t : Table) → AlikeWhere (any_reads t.inputs) given other → (rule : Option Rule)
    → option_map_or (λ r. cells_hold given earlier t.inputs r.cells) rule false ≡ option_map_or (λ r. cells_hold other earlier t.inputs r.cells) rule false
rule_alike given other earlier t alike None = refl
rule_alike given other earlier t alike (Some r) = cells_alike given other earlier t.inputs r.cells alike

matching_alike :
    (given other : List Slot) (earlier : List (List Answer)) (t : Table) → AlikeWhere (any_reads t.inputs) given other
    → matching given earlier t ≡ matching other earlier t
matching_alike given other earlier t alike =
    filter_agree (rule_matches given earlier t) (rule_matches other earlier t) (λ n. rule_alike given other earlier t alike (slice_get t.rules n))
    (range_with_len 0 (length t.rules))

outside_alike :
    (given other : List Slot) (earlier : List (List Answer)) (origin : Origin) (values : Option Cell) → value_read given earlier origin ≡ value_read other earlier origin
    → option_map_or (λ allowed. not (holds_of (value_read given earlier origin) allowed)) values false
    ≡ option_map_or (λ allowed. not (holds_of (value_read other earlier origin) allowed)) values false
outside_alike given other earlier origin None same = refl
outside_alike given other earlier origin (Some allowed) same = ap (λ value. not (holds_of value allowed)) same

place_alike :
    (given other : List Slot) (earlier : List (List Answer)) (is : List Input) → AlikeWhere (any_reads is) given other
    → position_or_len (is_outside given earlier) is ≡ position_or_len (is_outside other earlier) is
place_alike given other earlier [] alike = refl
place_alike given other earlier (i ∷ is) alike =
    let here = outside_alike given other earlier i.origin i.values (value_alike given other earlier i.origin (first_alike given other i is alike)) in
    let rest = place_alike given other earlier is (rest_alike given other i is alike) in
    ap (λ b. cond (not b) (1 + position_or_len (is_outside given earlier) is) 0) here
    ∙ ap (λ n. cond (not (is_outside other earlier i)) (1 + n) 0) rest

table_alike :
    (given other : List Slot) (earlier : List (List Answer)) (t : Table) → AlikeWhere (any_reads t.inputs) given other
    → table_value given earlier t ≡ table_value other earlier t
table_alike given other earlier t alike =
    let place = place_alike given other earlier t.inputs alike in
    let rules = matching_alike given other earlier t alike in
    let at : ℕ → Option ℕ = λ n. cond (nat_lt n (length t.inputs)) (Some n) None in
    ap (λ n. inside (at n) (number_after earlier) (by_hit t.hit (number_after earlier) t (matching given earlier t))) place
    ∙ ap (λ rules. inside (first_outside other earlier t) (number_after earlier) (by_hit t.hit (number_after earlier) t rules)) rules

next_alike :
    {X : Type 0} (here : TableValue) (next more : List Answer → Result X Fault) → ((answers : List Answer) → next answers ≡ more answers)
    → and_then here next ≡ and_then here more
next_alike (Ok answers) next more same = same answers
next_alike (Err fault) next more same = refl

answers_alike :
    (given other : List Slot) (earlier : List (List Answer)) (ts : List Table) → AlikeWhere (needs ts) given other
    → answers_of given earlier ts ≡ answers_of other earlier ts
answers_alike given other earlier [] alike = refl
answers_alike given other earlier (t ∷ ts) alike =
    let here = table_alike given other earlier t (λ place e. alike place (or_left (any_reads t.inputs place) (needs ts place) e)) in
    let next = λ (answers : List Answer). answers_of given (earlier ++ answers ∷ []) ts in
    let more = λ (answers : List Answer). answers_of other (earlier ++ answers ∷ []) ts in
    let rest : (answers : List Answer) → next answers ≡ more answers =
    λ answers. answers_alike given other (earlier ++ answers ∷ []) ts (λ place e. alike place (or_right (any_reads t.inputs place) (needs ts place) e)) in
    ap (λ (value : TableValue). and_then value next) here ∙ next_alike (table_value other earlier t) next more rest

-- the tables of the plan have the same answers
env_alike : (plan : PlanParts) (given other : List Slot) → AlikeWhere (needs plan.tables) given other → env plan given ≡ env plan other
env_alike plan given other alike =
    let answers = answers_alike given other [] plan.tables alike in
    cc

source_alike :
    (given other : List Slot) (answers : Environment) (source : Source) → AlikeWhere (λ place. source_reads (Some place) source) given other
    → value_of given answers source ≡ value_of other answers source
source_alike given other answers (Literal value) alike = refl
source_alike given other answers (Place p) alike = alike p (eq-eqb p p refl)
source_alike given other answers (Output name) alike = refl

limits_alike :
    (given other : List Slot) (answers : Environment) (family : Option FamilyRoles) → AlikeWhere (λ place. limits_read (Some place) family) given other
    → limits given answers family ≡ limits other answers family
limits_alike given other answers None alike = refl
limits_alike given other answers (Some roles) alike =
    let deductible =
    source_alike given other answers roles.deductible (λ place e. alike place (or_left (source_reads (Some place) roles.deductible) (source_reads (Some place) roles.oop_max) e)) in
    let oop_max = source_alike given other answers roles.oop_max (λ place e. alike place (or_right (source_reads (Some place) roles.deductible) (source_reads (Some place) roles.oop_max) e)) in
    rw (deductible, oop_max) refl

-- each role has the same value for both lists of slots
record SameRoles (given other : List Slot) (answers : Environment) (roles : Roles) : Type 0 where
  pub cover : value_of given answers roles.cover ≡ value_of other answers roles.cover
  pub fee : value_of given answers roles.fee ≡ value_of other answers roles.fee
  pub deductible : value_of given answers roles.deductible ≡ value_of other answers roles.deductible
  pub copay : value_of given answers roles.copay ≡ value_of other answers roles.copay
  pub rate : value_of given answers roles.rate ≡ value_of other answers roles.rate
  pub oop_max : value_of given answers roles.oop_max ≡ value_of other answers roles.oop_max
  pub family : limits given answers roles.family ≡ limits other answers roles.family

-- if the last test passes, then one of the tests passes
last_passes : (a b c d e f g : Bool) → g ≡ true → (a || (b || (c || (d || (e || (f || g)))))) ≡ true
last_passes a b c d e f g passes =
    or_right a (b || (c || (d || (e || (f || g))))) (or_right b (c || (d || (e || (f || g)))) (or_right c (d || (e || (f || g)))
    (or_right d (e || (f || g)) (or_right e (f || g) (or_right f g passes)))))

same_roles :
    (given other : List Slot) (answers : Environment) (roles : Roles) → AlikeWhere (λ place. roles_read (Some place) roles) given other
    → SameRoles given other answers roles
same_roles given other answers roles alike = record {
  cover = source_alike given other answers roles.cover (λ place e. alike place (grind (arith, e)));
  fee = source_alike given other answers roles.fee (λ place e. alike place (grind (arith, e)));
  deductible = source_alike given other answers roles.deductible (λ place e. alike place (grind (arith, e)));
  copay = source_alike given other answers roles.copay (λ place e. alike place (grind (arith, e)));
  rate = source_alike given other answers roles.rate (λ place e. alike place (grind (arith, e)));
  oop_max = source_alike given other answers roles.oop_max (λ place e. alike place (grind (arith, e)));
  family = limits_alike given other answers roles.family (λ place e. alike place (
      last_passes (source_reads (Some place) roles.cover) (source_reads (Some place) roles.fee) (source_reads (Some place) roles.deductible) (source_reads (Some place) roles.copay)
      (source_reads (Some place) roles.rate) (source_reads (Some place) roles.oop_max) (limits_read (Some place) roles.family) e
      ));
}

terms_alike :
    (given other : List Slot) (answers : Environment) (roles : Roles) → SameRoles given other answers roles
    → terms given answers roles ≡ terms other answers roles
terms_alike given other answers roles same = rw (same.fee, same.deductible, same.copay, same.rate, same.oop_max, same.family) refl

-- the roles have the same determination
roles_alike :
    (roles : Roles) (given other : List Slot) (answers : Environment) → SameRoles given other answers roles → by_roles roles given answers ≡ by_roles roles other answers
roles_alike roles given other answers same =
    let remarks = remarks_of answers roles.remarks in
    ap (λ (cover : Option Value). if is_true_flag cover then by_terms remarks (terms given answers roles) else Denied remarks) same.cover
    ∙ ap (λ (found : Result CostSharing Role). if is_true_flag (value_of other answers roles.cover) then by_terms remarks found else Denied remarks)
    (terms_alike given other answers roles same)

pub tables_alike :
    (roles : Option Roles) (given other : List Slot) (answers : Result Environment Fault) → AlikeWhere (λ place. any_role_reads (Some place) roles) given other
    → by_tables roles given answers ≡ by_tables roles other answers
tables_alike None given other answers alike = refl
tables_alike (Some roles) given other (Err fault) alike = refl
tables_alike (Some roles) given other (Ok answers) alike = roles_alike roles given other answers (same_roles given other answers roles alike)

-- the outcome of a claim depends only on the values that the plan reads
pub outcome_where_served :
    (plan seen : PlanParts) (claim : Claim) (acc : Acc) (given : List Slot) → plan ≡ seen → Serves plan claim acc given
    → outcome_from claim.billed acc (determination_of plan given) ≡ outcome seen claim acc
outcome_where_served plan seen claim acc given same serves =
    let other = given_by claim acc in
    let alike : AlikeWhere (is_read plan) given other = λ place read. serves place read ∙ sym (bound_value (values_given claim acc) place) in
    let by_table : AlikeWhere (needs plan.tables) given other = λ place read. alike place (or_left (needs plan.tables place) (any_role_reads (Some place) plan.roles) read) in
    let by_role : AlikeWhere (λ place. any_role_reads (Some place) plan.roles) given other =
    λ place read. alike place (or_right (needs plan.tables place) (any_role_reads (Some place) plan.roles) read) in
    ap (λ (answers : Result Environment Fault). outcome_from claim.billed acc (by_tables plan.roles given answers)) (env_alike plan given other by_table)
    ∙ ap (outcome_from claim.billed acc) (tables_alike plan.roles given other (env plan other) by_role) ∙ ap (λ (p : PlanParts). outcome p claim acc) same
