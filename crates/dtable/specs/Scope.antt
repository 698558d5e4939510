-- The names and outputs that a table and the roles can refer to.
use Rattle.std.specs.Prelude.{ℕ, zero, suc, Bool, ◌&&◌, List, [], ◌∷◌, ◌++◌, map, position, Option, None, option_map, slice_get}
use Rattle.std.specs.Option.{option_and_then}
use Rattle.std.specs.Str.{bytes_eq}
use Rattle.feel_tests.specs.declared.kind.Kind.{Kind}
use Rattle.tables.specs.declared.hit.Hit.{Hit}
use Rattle.tables.specs.declared.table.InputData.{InputData}
use Rattle.tables.specs.declared.table.Origin.{Origin}
use Rattle.tables.specs.declared.table.Origin.TheVariants.{Given, Earlier}
use Rattle.tables.specs.declared.table.Output.{Output}
use Rattle.tables.specs.declared.table.Table.{Table}
use Rattle.tables.specs.Environment.{or_else}
use Rattle.dtable.specs.NameForm.{reserved_names}
use Rattle.tables.specs.Plan.{gives_one, read_kind_of}

-- an output as later tables see it: its name, the kind of its values, and whether it has a single
-- value and not a list
pub record SeenOutput : Type 0 where
  pub name : List ℕ
  pub kind : Kind
  pub is_single : Bool

-- an output of a table with this hit policy, as later tables see it
abbrev pub seen_output : Hit → Output → SeenOutput
seen_output hit output = record { name = output.name; kind = read_kind_of hit output.kind; is_single = gives_one hit }

-- a table as later tables see it: its outputs
abbrev pub seen_of : Table → List SeenOutput
seen_of t = map (seen_output t.hit) t.outputs

-- the names of input data, in order
abbrev pub data_names : List InputData → List (List ℕ)
data_names names = map (λ d. d.name) names

-- the names of a table's outputs, in order
abbrev pub output_names : List Output → List (List ℕ)
output_names outputs = map (λ o. o.name) outputs

-- the names of all outputs, table by table
abbrev pub seen_names : List (List SeenOutput) → List (List ℕ)
seen_names [] = []
seen_names (os ∷ earlier) = map (λ o. o.name) os ++ seen_names earlier

-- the names in use: reserved names, these names, and the outputs of these tables
abbrev pub taken_names : List InputData → List (List SeenOutput) → List (List ℕ)
taken_names names earlier = reserved_names ++ (data_names names ++ seen_names earlier)

-- the output has the name and a single value
abbrev pub is_single_of : List ℕ → SeenOutput → Bool
is_single_of name o = o.is_single && bytes_eq o.name name

-- the single value with this name among the outputs of tables, of which the first has this number
abbrev pub earlier_origin : ℕ → List (List SeenOutput) → List ℕ → Option Origin
earlier_origin number [] name = None
earlier_origin number (os ∷ earlier) name =
    or_else (option_map (Earlier number) (position (is_single_of name) os)) (earlier_origin (suc number) earlier name)

-- the origin of the value of a name: the input data, or otherwise an output of an earlier table
-- with a single value
abbrev pub origin_of : List InputData → List (List SeenOutput) → List ℕ → Option Origin
origin_of names earlier name = or_else (option_map Given (position (λ d. bytes_eq d.name name) names)) (earlier_origin zero earlier name)

-- the kind of the value from this origin
abbrev pub kind_at : List InputData → List (List SeenOutput) → Origin → Option Kind
kind_at names earlier (Given place) = option_map (λ d. d.kind) (slice_get names place)
kind_at names earlier (Earlier table column) = option_map (λ o. o.kind) (option_and_then (λ os. slice_get os column) (slice_get earlier table))
