-- Input classes: all inputs whose values lie in the same regions have the same answers. Tables,
-- columns, names and regions are numbered from 0 here.
use Rattle.std.specs.Prelude.{◌≡◌, ℕ, ◌<◌, List, [], length, ◌+◌, ◌*◌, flat_map, filter, fold, map, Some, IsTrue, if◌then◌else◌}
use Rattle.std.specs.List.{range_with_len, enumerate_from, zip, AllZip}
use Rattle.feel_tests.specs.declared.kind.Kind.{Kind}
use Rattle.feel_tests.specs.declared.value.Value.{Value}
use Rattle.tables.specs.declared.inputs.Slot.{Slot}
use Rattle.tables.specs.declared.table.Input.{Input}
use Rattle.tables.specs.declared.table.Origin.TheVariants.{Given}
use Rattle.tables.specs.declared.table.Table.{Table}
use Rattle.tables.specs.Environment.{env}
use Rattle.tables.specs.Inputs.{needs, reads, value_at}
use Rattle.tables.specs.Plan.{PlanParts, has_kind}
use Rattle.cutplan.specs.declared.partition.Partition.{Partition}
use Rattle.regions.specs.declared.region.Region.{Region}
use Rattle.cutplan.specs.declared.input_class.CompiledName.{CompiledName}
use Rattle.regions.specs.Values.{is_value, kind_read, sort_values}
use Rattle.regions.specs.Regions.{column_literals, stretches}
use Rattle.cutplan.specs.Matching.{has_at, IsPlaceOf}

-- the literals of a table's column, if its input reads the name
abbrev pub input_literals : ℕ → Table → ℕ × Input → List Value
input_literals place t input = if reads place input.1.origin then column_literals t input.0 input.1.values else []

-- the literals of all columns of a table that read the name
abbrev pub table_literals : ℕ → Table → List Value
table_literals place t = flat_map (input_literals place t) (enumerate_from 0 t.inputs)

-- the literals of all columns of all tables that read the name
abbrev pub name_literals : List Table → ℕ → List Value
name_literals tables place = flat_map (table_literals place) tables

-- the kind of the values of a name
abbrev pub name_kind : PlanParts → ℕ → Kind
name_kind p place = kind_read p (Given place)

-- the regions of a name: the literals of all columns that read it cut its values
abbrev pub name_regions : PlanParts → ℕ → List Region
name_regions p place = stretches (name_kind p place) (sort_values (filter (has_kind (name_kind p place)) (name_literals p.tables place)))

-- the name has a value of its kind that lies in this region of the name
pub record LiesIn (p : PlanParts) (given : List Slot) (place region : ℕ) : Type 0 where
  pub value : Value
  pub is : value_at given place ≡ Some value
  pub of_kind : IsTrue (is_value (name_kind p place) value)
  pub inside : IsTrue (has_at (name_regions p place) region value)

-- the names that tables read, in order
abbrev pub names_read : PlanParts → List ℕ
names_read p = filter (needs p.tables) (range_with_len 0 (length p.names))

-- one more digit of a mixed-radix number: a radix and a digit
abbrev pub with_place : ℕ → ℕ × ℕ → ℕ
with_place number place = number * place.0 + place.1

-- the mixed-radix number with these radices and digits
abbrev pub number_of : List ℕ → List ℕ → ℕ
number_of counts places = fold with_place 0 (zip counts places)

-- the number of regions of each name that tables read
abbrev pub region_counts : PlanParts → List ℕ
region_counts p = map (λ place. length (name_regions p place)) (names_read p)

-- the input class of the inputs: the mixed-radix number of the regions that contain the values of
-- the names that tables read
pub record IsInputClass (p : PlanParts) (given : List Slot) (input_class : ℕ) : Type 0 where
  pub places : List ℕ
  pub lie : AllZip (LiesIn p given) (names_read p) places
  pub number : number_of (region_counts p) places ≡ input_class

-- tables read only names that exist
abbrev pub ReadsItsNames : PlanParts → Type 0
ReadsItsNames p = (place : ℕ) → IsTrue (needs p.tables place) → place < length p.names

-- all inputs in one input class have the same value
abbrev pub ClassesAnswerAlike : Type 0
ClassesAnswerAlike = (p : PlanParts) (one other : List Slot) (input_class : ℕ) → ReadsItsNames p → IsInputClass p one input_class → IsInputClass p other input_class → env p one ≡ env p other

-- the partition of a name: the kind of its values, and its regions
pub record IsNamePartition (p : PlanParts) (place : ℕ) (made : Partition) : Type 0 where
  pub kind : made.kind ≡ name_kind p place
  pub regions : made.regions.items ≡ name_regions p place

-- a compiled name: its index, and its partition
pub record IsKeptName (p : PlanParts) (place : ℕ) (kept : CompiledName) : Type 0 where
  pub at : kept.place ≡ place
  pub partition : IsNamePartition p place kept.partition

-- the compiled names that tables read, in order
abbrev pub AreCompiledNames : PlanParts → List CompiledName → Type 0
AreCompiledNames p kept = AllZip (IsKeptName p) (names_read p) kept

-- the name has a value of its kind that lies in the region at this index
pub record IsPlaceIn (name : CompiledName) (given : List Slot) (region : ℕ) : Type 0 where
  pub value : Value
  pub is : value_at given name.place ≡ Some value
  pub lies : IsPlaceOf name.partition value region
