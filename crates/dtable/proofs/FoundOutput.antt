-- The output that a name refers to: its place and its name.
use Rattle.std.proofs.Common.{◌≡◌, ℕ, ◌+◌, ◌<◌, zero, suc, true, ◌&&◌, List, [], ◌∷◌, length, map, Option, Some, None, option_map, slice_get, get_or, refl, sym, ap, ◌∙◌, arith}
use Rattle.std.specs.List.{position}
use Rattle.std.specs.Str.{bytes_eq}
use Rattle.std.proofs.lemmas.Bool.{and_parts}
use Rattle.std.proofs.lemmas.List.Quantifiers.{position-Some}
use Rattle.std.proofs.lemmas.Option.{same_Some, slice_get-get_or, slice_get_within, get_or_from_slice_get}
use Rattle.std.proofs.lemmas.Slice.Eq.{bytes_eq-Decides}
use Rattle.feel_tests.specs.declared.kind.Kind.TheVariants as kinds
use Rattle.tables.specs.declared.table.InputData.{InputData}
use Rattle.tables.specs.declared.table.Origin.{Origin}
use Rattle.tables.specs.declared.table.Origin.TheVariants.{Given, Earlier}
use Rattle.tables.specs.declared.table.Output.{Output}
use Rattle.tables.specs.declared.table.Table.{Table}
use Rattle.tables.specs.Environment.{or_else}
use Rattle.tables.specs.Plan.{gives_one}
use Rattle.dtable.specs.Scope.{seen_of, is_single_of, earlier_origin, origin_of}
use Rattle.dtable.proofs.ReadNames.{position-single}

-- the output of an earlier table that a name refers to
pub record IsFound (name : List ℕ) (first : ℕ) (ts : List Table) (origin : Origin) : Type 0 where
  pub table : ℕ
  pub column : ℕ
  pub t : Table
  pub output : Output
  pub there : origin ≡ Earlier (first + table) column
  pub t_at : slice_get ts table ≡ Some t
  pub one : gives_one t.hit ≡ true
  pub within : column < length t.outputs
  pub output_at : slice_get t.outputs column ≡ Some output
  pub named : bytes_eq output.name name ≡ true

no_output : Output
no_output = record { name = []; kind = kinds.Number; priority = None; fallback = None }

found_here : (name : List ℕ) (first : ℕ) (t : Table) (ts : List Table) (column : ℕ) (origin : Origin) → position (is_single_of name) (seen_of t) ≡ Some column → Earlier first column ≡ origin → IsFound name first (t ∷ ts) origin
found_here name first t ts column origin e there =
    let at = position-Some (λ o. gives_one t.hit && bytes_eq o.name name) t.outputs column no_output (sym (position-single name t) ∙ e) in
    let tests = and_parts (gives_one t.hit) (bytes_eq (get_or t.outputs column no_output).name name) at.1 in
    let place : first ≡ first + 0 = omega arith in
    record {
      table = zero;
      column = column;
      t = t;
      output = get_or t.outputs column no_output;
      there = sym there ∙ ap (λ n. Earlier n column) place;
      t_at = refl;
      one = tests.0;
      within = at.0;
      output_at = slice_get-get_or t.outputs column no_output at.0;
      named = tests.1;
    }

found_by : (name : List ℕ) (first : ℕ) (t : Table) (ts : List Table) (origin : Origin) → (earlier_origin (suc first) (map seen_of ts) name ≡ Some origin → IsFound name (suc first) ts origin)
    → (p : Option ℕ) → position (is_single_of name) (seen_of t) ≡ p → or_else (option_map (Earlier first) p) (earlier_origin (suc first) (map seen_of ts) name) ≡ Some origin → IsFound name first (t ∷ ts) origin
found_by name first t ts origin further (Some place) is e = found_here name first t ts place origin is (same_Some (Earlier first place) origin e)
found_by name first t ts origin further None is e =
    let later = further e in
    let place : suc first + later.table ≡ first + suc later.table = omega arith in
    record {
      table = suc later.table;
      column = later.column;
      t = later.t;
      output = later.output;
      there = later.there ∙ ap (λ n. Earlier n later.column) place;
      t_at = later.t_at;
      one = later.one;
      within = later.within;
      output_at = later.output_at;
      named = later.named;
    }

pub found : (name : List ℕ) (first : ℕ) (ts : List Table) (origin : Origin) → earlier_origin first (map seen_of ts) name ≡ Some origin → IsFound name first ts origin
found name first [] origin e = cc
found name first (t ∷ ts) origin e = found_by name first t ts origin (found name (suc first) ts origin) (position (is_single_of name) (seen_of t)) refl e

-- the table and the output are within the lists, and the output has the name
pub record IsLocatedThere (name : List ℕ) (ts : List Table) (table column : ℕ) : Type 0 where
  pub table_within : table < length ts
  pub column_within : (d : Table) → column < length (get_or ts table d).outputs
  pub named : (d : Table) (o : Output) → (get_or (get_or ts table d).outputs column o).name ≡ name

is_located_there : (name : List ℕ) (ts : List Table) (table column : ℕ) → IsFound name 0 ts (Earlier table column) → IsLocatedThere name ts table column
is_located_there name ts table column f =
    let there = f.there in
    let tables : table ≡ 0 + f.table = cc in
    let columns : column ≡ f.column = cc in
    let place : table ≡ f.table = omega (arith, tables) in
    let at : slice_get ts table ≡ Some f.t = ap (slice_get ts) place ∙ f.t_at in
    let table_at : (d : Table) → get_or ts table d ≡ f.t = λ d. get_or_from_slice_get ts table f.t d at in
    let output_at : slice_get f.t.outputs column ≡ Some f.output = ap (slice_get f.t.outputs) columns ∙ f.output_at in
    record {
      table_within = slice_get_within ts table f.t at;
      column_within = λ d. rw (table_at d, columns) f.within;
      named = λ d o. rw (table_at d, get_or_from_slice_get f.t.outputs column f.output o output_at) ((bytes_eq-Decides f.output.name name).0 f.named);
    }

is_located_by : (name : List ℕ) (ts : List Table) (table column : ℕ) (p : Option ℕ) → or_else (option_map Given p) (earlier_origin 0 (map seen_of ts) name) ≡ Some (Earlier table column)
    → IsLocatedThere name ts table column
is_located_by name ts table column (Some place) e = cc
is_located_by name ts table column None e = is_located_there name ts table column (found name 0 ts (Earlier table column) e)

-- the output of an earlier table whose value a name refers to
pub is_located_at : (names : List InputData) (ts : List Table) (name : List ℕ) (table column : ℕ) → origin_of names (map seen_of ts) name ≡ Some (Earlier table column) → IsLocatedThere name ts table column
is_located_at names ts name table column e = is_located_by name ts table column (position (λ d. bytes_eq d.name name) names) e
