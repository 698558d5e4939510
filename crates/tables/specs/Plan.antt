-- Plans as contracts see them, and what holds for every plan.
use Rattle.std.specs.Prelude.{◌≡◌, ◌≢◌, ◌≤◌, ◌⊎◌, ℕ, Bool, true, false, not, ◌&&◌, ◌==◌, nat_lt, List, [], ◌∷◌, ◌++◌, length, map, flat_map, All, AllPairs, IfSome, Option, Some, None, is_some, slice_get, IsTrue}
use Rattle.std.specs.List.{list_all, list_any, zip}
use Rattle.std.specs.Option.{option_map_or}
use Rattle.std.specs.Str.{bytes_eq}
use Rattle.feel_tests.specs.declared.kind.Kind.{Kind}
use Rattle.feel_tests.specs.declared.kind.Kind.TheVariants as kinds
use Rattle.feel_tests.specs.declared.value.Value.{Value}
use Rattle.feel_tests.specs.Value.{kind_of}
use Rattle.feel_tests.specs.Holds.{is_equal}
use Rattle.tables.specs.declared.hit.Hit.{Hit}
use Rattle.tables.specs.declared.hit.Hit.TheVariants.{P, O, R, C, Sum, Min, Max, Count}
use Rattle.tables.specs.declared.table.InputData.{InputData}
use Rattle.tables.specs.declared.table.Origin.{Origin}
use Rattle.tables.specs.declared.table.Origin.TheVariants.{Given, Earlier}
use Rattle.tables.specs.declared.table.Output.{Output as TableOutput}
use Rattle.tables.specs.declared.table.Rule.{Rule}
use Rattle.tables.specs.declared.table.Table.{Table}
use Rattle.tables.specs.declared.roles.Source.{Source}
use Rattle.tables.specs.declared.roles.Source.TheVariants.{Literal, Input, Output}
use Rattle.tables.specs.declared.roles.FamilyRoles.{FamilyRoles}
use Rattle.tables.specs.declared.roles.Roles.{Roles}
use Rattle.tables.specs.Limits.{fields_limit, tables_limit, inputs_limit, outputs_limit, rules_limit, priority_limit}
use Rattle.tables.specs.Names.{names_of}

-- a plan as contracts see it: the version of its format, the names that tables may read from
-- outside, the tables in order, and the roles
pub record PlanParts : Type 0 where
  pub version : ℕ
  pub names : List InputData
  pub tables : List Table
  pub roles : Option Roles

-- the versions of the format: version 2 keeps accumulators by benefit year, and version 3 also for
-- families
abbrev pub IsVersion : ℕ → Type 0
IsVersion version = (version ≡ 1) ⊎ ((version ≡ 2) ⊎ (version ≡ 3))

-- this version keeps accumulators by benefit year, which is the calendar year of the service
abbrev pub has_years : ℕ → Bool
has_years version = not (version == 1)

-- this version also keeps accumulators for families
abbrev pub has_families : ℕ → Bool
has_families version = version == 3

-- the plan keeps accumulators by benefit year
abbrev pub keeps_years : PlanParts → Bool
keeps_years plan = has_years plan.version

-- the plan also keeps accumulators for families
abbrev pub keeps_families : PlanParts → Bool
keeps_families plan = has_families plan.version

-- the kinds are the same
abbrev pub same_kind : Kind → Kind → Bool
same_kind kinds.Number kinds.Number = true
same_kind kinds.Text kinds.Text = true
same_kind kinds.Flag kinds.Flag = true
same_kind kinds.Day kinds.Day = true
same_kind _ _ = false

-- the value is of the kind
abbrev pub has_kind : Kind → Value → Bool
has_kind kind value = same_kind kind (kind_of value)

-- each output of a table with this hit policy has a single value and not a list
abbrev pub gives_one : Hit → Bool
gives_one O = false
gives_one R = false
gives_one C = false
gives_one _ = true

-- the kind of the values that later tables and roles see in an output of the declared kind: a
-- number if rules are counted
abbrev pub read_kind_of : Hit → Kind → Kind
read_kind_of Count written = kinds.Number
read_kind_of _ written = written

-- the origin is one of the names, or an output of an earlier table with a single value
abbrev pub is_known : List InputData → List Table → Origin → Bool
is_known names earlier (Given place) = nat_lt place (length names)
is_known names earlier (Earlier table column) =
    option_map_or (λ t. gives_one t.hit && nat_lt column (length t.outputs)) (slice_get earlier table) false

-- each input of each table has a known origin, given the tables before it
abbrev pub are_known : List InputData → List Table → List Table → Bool
are_known names earlier [] = true
are_known names earlier (t ∷ ts) = list_all (λ i. is_known names earlier i.origin) t.inputs && are_known names (earlier ++ t ∷ []) ts

-- the value is in the priority list, if there is one
abbrev pub is_ranked : Option (List Value) → Value → Bool
is_ranked None value = true
is_ranked (Some list) value = list_any (λ listed. is_equal listed value) list

-- the entry is of its output's kind and in its priority list
abbrev pub entry_fits : TableOutput → Value → Bool
entry_fits output entry = has_kind output.kind entry && is_ranked output.priority entry

-- the rule has a cell for each input and a fitting entry for each output
abbrev pub rule_fits : Table → Rule → Bool
rule_fits t r =
    (length r.cells == length t.inputs) && ((length r.entries == length t.outputs) && list_all (λ p. entry_fits p.0 p.1) (zip t.outputs r.entries))

-- the constraints of a hit policy on the outputs: `P` and `O` need a priority list, an aggregator
-- needs exactly one output, and all aggregators but `C#` need numbers
abbrev pub satisfies_constraints : Hit → List TableOutput → Bool
satisfies_constraints P outputs = list_any (λ o. is_some o.priority) outputs
satisfies_constraints O outputs = list_any (λ o. is_some o.priority) outputs
satisfies_constraints Sum outputs = (length outputs == 1) && list_all (λ o. same_kind o.kind kinds.Number) outputs
satisfies_constraints Min outputs = (length outputs == 1) && list_all (λ o. same_kind o.kind kinds.Number) outputs
satisfies_constraints Max outputs = (length outputs == 1) && list_all (λ o. same_kind o.kind kinds.Number) outputs
satisfies_constraints Count outputs = length outputs == 1
satisfies_constraints _ outputs = true

-- the default, if there is one, is of the kind that later tables see in its output
abbrev pub default_fits : Hit → TableOutput → Bool
default_fits hit output = option_map_or (has_kind (read_kind_of hit output.kind)) output.fallback true

-- an output of a table has the name and passes the test
abbrev pub some_output : (Hit → TableOutput → Bool) → List Table → List ℕ → Bool
some_output test tables name = list_any (λ t. list_any (λ o. bytes_eq o.name name && test t.hit o) t.outputs) tables

-- the source gives a value of the kind: it is a literal, one of the names, or an output with a
-- single value
abbrev pub source_fits : List InputData → List Table → Kind → Source → Bool
source_fits names tables kind (Literal value) = has_kind kind value
source_fits names tables kind (Input place) = option_map_or (λ d. same_kind kind d.kind) (slice_get names place) false
source_fits names tables kind (Output name) = some_output (λ hit o. gives_one hit && same_kind kind (read_kind_of hit o.kind)) tables name

-- the name of the remarks, if there is one, is that of an output that lists texts
abbrev pub remarks_fit : List Table → Option (List ℕ) → Bool
remarks_fit tables None = true
remarks_fit tables (Some name) = some_output (λ hit o. not (gives_one hit) && same_kind kinds.Text o.kind) tables name

-- the family's limits have sources of their kinds if the plan has families, and are absent
-- otherwise
abbrev pub family_roles_fit : PlanParts → Option FamilyRoles → Bool
family_roles_fit p None = not (keeps_families p)
family_roles_fit p (Some limits) =
    keeps_families p && source_fits p.names p.tables kinds.Number limits.deductible && source_fits p.names p.tables kinds.Number limits.oop_max

-- each role has a source of its kind
abbrev pub roles_fit : PlanParts → Roles → Bool
roles_fit p roles =
    source_fits p.names p.tables kinds.Flag roles.cover && source_fits p.names p.tables kinds.Number roles.fee
    && source_fits p.names p.tables kinds.Number roles.deductible && source_fits p.names p.tables kinds.Number roles.copay
    && source_fits p.names p.tables kinds.Number roles.rate && source_fits p.names p.tables kinds.Number roles.oop_max
    && remarks_fit p.tables roles.remarks && family_roles_fit p roles.family

-- the inputs, outputs, rules and priority lists of a table are within the limits
pub record IsTableWithin (t : Table) : Type 0 where
  pub inputs : length t.inputs ≤ inputs_limit
  pub outputs : length t.outputs ≤ outputs_limit
  pub rules : length t.rules ≤ rules_limit
  pub priorities : All (λ o. IfSome o.priority (λ list. length list ≤ priority_limit)) t.outputs

-- the fields and tables of a plan are within the limits
pub record IsWithin (fields : List InputData) (tables : List Table) : Type 0 where
  pub few_fields : length fields ≤ fields_limit
  pub few_tables : length tables ≤ tables_limit
  pub each_table : All IsTableWithin tables

-- all names of a plan: the names that tables may read from outside, and the names of the outputs
abbrev pub plan_names : PlanParts → List (List ℕ)
plan_names p = map (λ d. d.name) p.names ++ flat_map (λ t. map (λ o. o.name) t.outputs) p.tables

-- the names are pairwise distinct
abbrev pub AreDistinct : List (List ℕ) → Type 0
AreDistinct names = AllPairs (λ a b. a ≢ b) names

-- what holds for every plan; in addition, each of its names is a `Name` of at most
-- `name_limit_bytes` bytes
pub record IsPlan (p : PlanParts) : Type 0 where
  pub version : IsVersion p.version
  pub fields : List InputData
  pub names : p.names ≡ names_of (keeps_families p) fields
  pub limits : IsWithin fields p.tables
  pub distinct : AreDistinct (plan_names p)
  pub origins : IsTrue (are_known p.names [] p.tables)
  pub rules : IsTrue (list_all (λ t. list_all (rule_fits t) t.rules) p.tables)
  pub demands : IsTrue (list_all (λ t. satisfies_constraints t.hit t.outputs) p.tables)
  pub defaults : IsTrue (list_all (λ t. list_all (default_fits t.hit) t.outputs) p.tables)
  pub roles : IsTrue (option_map_or (roles_fit p) p.roles true)
