-- The plan that a text denotes, key by key of the document that `toml` reads from it.
use Rattle.std.specs.Prelude.{◌≡◌, ℕ, ◌<◌, ◌≤◌, pos, Bool, false, List, [], length, map, codes, Option, Some, None, IsUtf8, IsTrue}
use Rattle.toml.specs.Data.{Data, Items, Members, table, integer, string, get, as_array}
use Rattle.toml.specs.Parse.{parse_document}
use Rattle.feel_tests.specs.declared.kind.Kind.{Kind}
use Rattle.feel_tests.specs.declared.kind.Kind.TheVariants.{Number, Text, Flag, Day}
use Rattle.feel_tests.specs.declared.cell.Cell.{Cell}
use Rattle.feel_tests.specs.declared.value.Value.{Value}
use Rattle.feel_tests.specs.Cell.{SpellsCell, SpellsValue}
use Rattle.feel_tests.specs.Value.{kind_of}
use Rattle.tables.specs.declared.hit.Hit.{Hit}
use Rattle.tables.specs.declared.hit.Hit.TheVariants.{U, A, P, F, O, R, C, Sum, Min, Max, Count}
use Rattle.tables.specs.declared.table.InputData.{InputData}
use Rattle.tables.specs.declared.table.Origin.{Origin}
use Rattle.tables.specs.declared.table.Input.{Input}
use Rattle.tables.specs.declared.table.Output.{Output}
use Rattle.tables.specs.declared.table.Rule.{Rule}
use Rattle.tables.specs.declared.table.Table.{Table}
use Rattle.dtable.specs.Document.{string_at, array_at, optional_array_at, item_count, Optionally, Each, EachAfter, EachUnder}
use Rattle.tables.specs.Limits.{plan_limit_bytes, fields_limit, tables_limit, inputs_limit, outputs_limit, rules_limit, priority_limit, name_limit_bytes}
use Rattle.dtable.specs.NameForm.{has_name_form, is_among, names_taken}
use Rattle.tables.specs.Names.{names_of}
use Rattle.tables.specs.Plan.{PlanParts, IsVersion, is_ranked, keeps_families, satisfies_constraints, read_kind_of}
use Rattle.dtable.specs.RoleFile.{AreRoles}
use Rattle.dtable.specs.Scope.{SeenOutput, seen_of, origin_of, kind_at, taken_names}

-- the word of a kind
abbrev pub kind_word : Kind → List ℕ
kind_word Number = codes "number"
kind_word Text = codes "text"
kind_word Flag = codes "flag"
kind_word Day = codes "day"

-- the word of a hit policy (DMN 1.4, hit policies)
abbrev pub hit_word : Hit → List ℕ
hit_word U = codes "U"
hit_word A = codes "A"
hit_word P = codes "P"
hit_word F = codes "F"
hit_word O = codes "O"
hit_word R = codes "R"
hit_word C = codes "C"
hit_word Sum = codes "C+"
hit_word Min = codes "C<"
hit_word Max = codes "C>"
hit_word Count = codes "C#"

-- the key `name` of an entry has this name, of the form and length of a name
pub record IsNamed (entry : Data) (name : List ℕ) : Type 0 where
  pub written : string_at (codes "name") entry ≡ Some name
  pub form : IsTrue (has_name_form name)
  pub short : length name ≤ name_limit_bytes

-- the key `name` has a name that is not in use yet
pub record IsNewlyNamed (taken : List (List ℕ)) (entry : Data) (name : List ℕ) : Type 0 where
  pub named : IsNamed entry name
  pub new : is_among name taken ≡ false

-- the key `kind` of an entry has the word of the kind
abbrev pub IsOfKind : Data → Kind → Type 0
IsOfKind entry kind = string_at (codes "kind") entry ≡ Some (kind_word kind)

-- the string denotes a literal of the kind
pub record IsLiteral (kind : Kind) (entry : Data) (value : Value) : Type 0 where
  pub text : List ℕ
  pub written : entry ≡ string text
  pub spelled : SpellsValue kind text value
  pub of_kind : kind_of value ≡ kind

-- the string denotes a cell for values of the kind
pub record IsCellOf (kind : Kind) (entry : Data) (cell : Cell) : Type 0 where
  pub text : List ℕ
  pub written : entry ≡ string text
  pub spelled : SpellsCell kind text cell

-- the string denotes a cell for the values from this origin
pub record IsCell (names : List InputData) (earlier : List (List SeenOutput)) (origin : Origin) (entry : Data) (cell : Cell) : Type 0 where
  pub kind : Kind
  pub known : kind_at names earlier origin ≡ Some kind
  pub spelled : IsCellOf kind entry cell

-- an entry of `fields`: a name that is not in use yet, and a kind
pub record IsField (taken : List (List ℕ)) (entry : Data) (field : InputData) : Type 0 where
  pub name : IsNewlyNamed taken entry field.name
  pub kind : IsOfKind entry field.kind

-- the entries of `fields`: their number is within the limit, and their names are distinct
pub record AreFields (families : Bool) (entries : Items) (fields : List InputData) : Type 0 where
  pub within : item_count entries ≤ fields_limit
  pub each : EachAfter (λ f. f.name) IsField (names_taken families) entries fields

-- an entry of `inputs`: the name of a single value that is known before the table, and its allowed
-- values if they are restricted
pub record IsInput (names : List InputData) (earlier : List (List SeenOutput)) (entry : Data) (input : Input) : Type 0 where
  pub name : IsNamed entry input.name
  pub known : origin_of names earlier input.name ≡ Some input.origin
  pub values : Optionally (IsCell names earlier input.origin) (get (codes "values") entry) input.values

-- the value is in the list
abbrev pub is_listed : List Value → Value → Bool
is_listed list value = is_ranked (Some list) value

-- an entry of `priority`: a literal of the kind that is not among the entries before it
pub record IsPriority (kind : Kind) (front : List Value) (entry : Data) (value : Value) : Type 0 where
  pub literal : IsLiteral kind entry value
  pub new : is_listed front value ≡ false

-- the entries of `priority`: distinct literals of the kind, highest first, within the limit
pub record ArePriorityEntries (kind : Kind) (entries : Items) (list : List Value) : Type 0 where
  pub within : item_count entries ≤ priority_limit
  pub each : EachAfter (λ v. v) (IsPriority kind) [] entries list

-- the array `priority`
pub record ArePriorities (kind : Kind) (array : Data) (list : List Value) : Type 0 where
  pub entries : Items
  pub written : as_array array ≡ Some entries
  pub spelled : ArePriorityEntries kind entries list

-- an entry of `outputs`: a name that is not in use yet, a kind, and the priority list and the
-- default, if any; the default of an output that counts rules is a number
pub record IsOutput (hit : Hit) (taken : List (List ℕ)) (entry : Data) (output : Output) : Type 0 where
  pub name : IsNewlyNamed taken entry output.name
  pub kind : IsOfKind entry output.kind
  pub priority : Optionally (ArePriorities output.kind) (get (codes "priority") entry) output.priority
  pub fallback : Optionally (IsLiteral (read_kind_of hit output.kind)) (get (codes "default") entry) output.fallback

-- an entry of `then` for its output: a literal of the declared kind, in the priority list if there
-- is one
pub record IsEntry (output : Output) (entry : Data) (value : Value) : Type 0 where
  pub literal : IsLiteral output.kind entry value
  pub listed : IsTrue (is_ranked output.priority value)

-- an entry of `when` for its input: a cell
abbrev pub IsCellUnder : List InputData → List (List SeenOutput) → Input → Data → Cell → Type 0
IsCellUnder names earlier input entry cell = IsCell names earlier input.origin entry cell

-- the array at a key of a rule has one element for each column
pub record IsRow {Column Element : Type 0} (Spells : Column → Data → Element → Type 0) (columns : List Column) (key : List ℕ) (rule : Data) (elements : List Element) : Type 0 where
  pub entries : Items
  pub written : array_at key rule ≡ Some entries
  pub each : EachUnder Spells columns entries elements

-- an entry of `rules`: a cell for each input, and a literal for each output
pub record IsRule (names : List InputData) (earlier : List (List SeenOutput)) (inputs : List Input) (outputs : List Output) (entry : Data) (rule : Rule) : Type 0 where
  pub when : IsRow (IsCellUnder names earlier) inputs (codes "when") entry rule.cells
  pub then : IsRow IsEntry outputs (codes "then") entry rule.entries

-- the string is the word of the hit policy
abbrev pub IsHitWord : Data → Hit → Type 0
IsHitWord value hit = value ≡ string (hit_word hit)

-- the hit policy by its word, or Unique if the key is missing
abbrev pub IsHit : Option Data → Hit → Type 0
IsHit None hit = hit ≡ U
IsHit (Some value) hit = IsHitWord value hit

-- the array `inputs`: at least one, within the limit
pub record AreInputs (names : List InputData) (earlier : List (List SeenOutput)) (entry : Data) (inputs : List Input) : Type 0 where
  pub entries : Items
  pub written : array_at (codes "inputs") entry ≡ Some entries
  pub some : 0 < item_count entries
  pub within : item_count entries ≤ inputs_limit
  pub each : Each (IsInput names earlier) entries inputs

-- the array `outputs`: at least one, within the limit, with distinct names
pub record AreOutputs (hit : Hit) (taken : List (List ℕ)) (entry : Data) (outputs : List Output) : Type 0 where
  pub entries : Items
  pub written : array_at (codes "outputs") entry ≡ Some entries
  pub some : 0 < item_count entries
  pub within : item_count entries ≤ outputs_limit
  pub each : EachAfter (λ o. o.name) (IsOutput hit) taken entries outputs

-- the array `rules`: within the limit
pub record AreRules (names : List InputData) (earlier : List (List SeenOutput)) (inputs : List Input) (outputs : List Output) (entry : Data) (rules : List Rule) : Type 0 where
  pub entries : Items
  pub written : array_at (codes "rules") entry ≡ Some entries
  pub within : item_count entries ≤ rules_limit
  pub each : Each (IsRule names earlier inputs outputs) entries rules

-- an entry of `tables`, by the names and the tables before it
pub record IsTable (names : List InputData) (earlier : List (List SeenOutput)) (entry : Data) (t : Table) : Type 0 where
  pub hit : IsHit (get (codes "hit") entry) t.hit
  pub inputs : AreInputs names earlier entry t.inputs
  pub outputs : AreOutputs t.hit (taken_names names earlier) entry t.outputs
  pub demands : IsTrue (satisfies_constraints t.hit t.outputs)
  pub rules : AreRules names earlier t.inputs t.outputs entry t.rules

-- the entries of `tables`, each by the tables before it, within the limit
pub record AreTables (names : List InputData) (entries : Items) (tables : List Table) : Type 0 where
  pub within : item_count entries ≤ tables_limit
  pub each : EachAfter seen_of (IsTable names) [] entries tables

-- the names of a plan by the optional key `fields` of its document
pub record AreNames (families : Bool) (document : Data) (names : List InputData) : Type 0 where
  pub entries : Items
  pub written : optional_array_at (codes "fields") document ≡ Some entries
  pub fields : List InputData
  pub spelled : AreFields families entries fields
  pub named : names ≡ names_of families fields

-- the optional key `tables` of a document
pub record AreTablesOf (names : List InputData) (document : Data) (tables : List Table) : Type 0 where
  pub entries : Items
  pub written : optional_array_at (codes "tables") document ≡ Some entries
  pub spelled : AreTables names entries tables

-- the key `version` of a document has this version
pub record IsVersionOf (document : Data) (version : ℕ) : Type 0 where
  pub written : get (codes "version") document ≡ Some (integer (pos version))
  pub known : IsVersion version

-- the document denotes this plan
pub record IsPlanDocument (document : Data) (plan : PlanParts) : Type 0 where
  pub version : IsVersionOf document plan.version
  pub names : AreNames (keeps_families plan) document plan.names
  pub tables : AreTablesOf plan.names document plan.tables
  pub roles : Optionally (AreRoles (keeps_families plan) plan.names (map seen_of plan.tables)) (get (codes "roles") document) plan.roles

-- the text denotes this plan
pub record IsPlanText (text : List ℕ) (plan : PlanParts) : Type 0 where
  pub within : length text ≤ plan_limit_bytes
  pub utf8 : IsUtf8 text
  pub members : Members
  pub read : parse_document text ≡ Some members
  pub spelled : IsPlanDocument (table members) plan

-- a text denotes at most one plan
abbrev pub SpellsOnePlan : Type 0
SpellsOnePlan = (text : List ℕ) (one other : PlanParts) → IsPlanText text one → IsPlanText text other → one ≡ other
