-- The compiled input columns of tables. Columns and regions are numbered from 0 here.
use Rattle.std.specs.Prelude.{◌≡◌, ℕ, ◌+◌, ◌-◌, ◌≤◌, List, [], ◌∷◌, length, map, Some, slice_get, All}
use Rattle.std.specs.List.{enumerate_from, AllZip}
use Rattle.feel_tests.specs.declared.value.Value.{Value}
use Rattle.tables.specs.declared.environment.Answer.{Answer}
use Rattle.tables.specs.declared.inputs.Slot.{Slot}
use Rattle.tables.specs.declared.table.Input.{Input}
use Rattle.tables.specs.declared.table.Table.{Table}
use Rattle.tables.specs.Matching.{value_read}
use Rattle.tables.specs.Plan.{PlanParts}
use Rattle.cutplan.specs.declared.compiled_column.CompiledColumn.{CompiledColumn}
use Rattle.cutplan.specs.declared.partition.Partition.{Partition}
use Rattle.regions.specs.declared.region.Region.{Region}
use Rattle.regions.specs.Values.{kind_read}
use Rattle.regions.specs.Regions.{column_of, regions}
use Rattle.cutplan.specs.Masks.{AreMasks}
use Rattle.cutplan.specs.Matching.{IsPlaceOf}

-- the partition of an input column: the kind of its values, and its regions
pub record IsColumnPartition (p : PlanParts) (t : Table) (column : ℕ) (input : Input) (made : Partition) : Type 0 where
  pub kind : made.kind ≡ kind_read p input.origin
  pub listed : made.regions.items ≡ regions (column_of p t column input)

-- the compiled column of an input: its input expression, its partition, and the masks of its
-- regions
pub record IsCompiledColumn (p : PlanParts) (t : Table) (place : ℕ) (input : Input) (kept : CompiledColumn) : Type 0 where
  pub origin : kept.origin ≡ input.origin
  pub partition : IsColumnPartition p t place input kept.partition
  pub masks : AreMasks t place kept.partition.regions.items kept.masks

-- the compiled columns of a table of a plan, in order
abbrev pub AreCompiledColumns : PlanParts → Table → List CompiledColumn → Type 0
AreCompiledColumns p t kept = AllZip (λ (input : ℕ × Input) (column : CompiledColumn). IsCompiledColumn p t input.0 input.1 column) (enumerate_from 0 t.inputs) kept

-- the compiled columns of the table of this number, from 1
abbrev pub AreColumnsOf : PlanParts → ℕ → List CompiledColumn → Type 0
AreColumnsOf p table kept = (t : Table) → slice_get p.tables (table - 1) ≡ Some t → AreCompiledColumns p t kept

-- the regions of each of these columns
abbrev pub regions_kept : List CompiledColumn → List (List Region)
regions_kept columns = map (λ (c : CompiledColumn). c.partition.regions.items) columns

-- the masks of each of these columns
abbrev pub masks_kept : List CompiledColumn → List (List (List ℕ))
masks_kept columns = map (λ (c : CompiledColumn). c.masks) columns

-- each of these columns has the masks of its regions; the first is the table's column at the index
-- `place`
abbrev pub AreMasked : Table → ℕ → List CompiledColumn → Type 0
AreMasked t place [] = Unit {0}
AreMasked t place (c ∷ cs) = AreMasks t place c.partition.regions.items c.masks × AreMasked t (place + 1) cs

-- the compiled columns of a table of some plan
pub record AreKept (t : Table) (kept : List CompiledColumn) : Type 0 where
  pub plan : PlanParts
  pub columns : AreCompiledColumns plan t kept

-- the value is of the column's kind, and the mask is that of a region of the column that contains
-- it
pub record IsMaskOf (column : CompiledColumn) (v : Value) (mask : List ℕ) : Type 0 where
  pub place : ℕ
  pub is : IsPlaceOf column.partition v place
  pub mask_at : slice_get column.masks place ≡ Some mask

-- the mask is that of the region that contains the value that the column reads
pub record IsMaskRead (given : List Slot) (earlier : List (List Answer)) (column : CompiledColumn) (mask : List ℕ) : Type 0 where
  pub value : Value
  pub read : value_read given earlier column.origin ≡ Some value
  pub is : IsMaskOf column value mask

-- the compiled columns of each table of a plan; no table has more rules than a mask has bits
pub record IsCut (p : PlanParts) (kept : List (List CompiledColumn)) : Type 0 where
  pub columns : AllZip (AreCompiledColumns p) p.tables kept
  pub few : All (λ t. length t.rules ≤ 256) p.tables
