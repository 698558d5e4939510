-- Tables have the value of an input class for all inputs in it, also if the class has finer
-- regions.
use Rattle.std.proofs.Common.{◌≡◌, ℕ, suc, ◌+◌, ◌++◌, ◌&&◌, inl, inr, Bool, true, false, not, cond, nat_lt, List, [], ◌∷◌, length, filter, Option, Some, None, Ok, Err, refl, ap, sym, ◌∙◌, subst, arith, eq-eqb}
use Rattle.std.specs.List.{flat_map, list_any, slice_get, range_with_len, enumerate_from, position_or_len}
use Rattle.std.specs.Option.{option_map_or}
use Rattle.feel_tests.specs.declared.cell.Cell.{Cell}
use Rattle.feel_tests.specs.declared.value.Value.{Value}
use Rattle.tables.specs.declared.environment.Answer.{Answer}
use Rattle.tables.specs.declared.inputs.Slot.{Slot}
use Rattle.tables.specs.declared.table.Input.{Input}
use Rattle.tables.specs.declared.table.Origin.{Origin}
use Rattle.tables.specs.declared.table.Origin.TheVariants.{Given, Earlier}
use Rattle.tables.specs.declared.table.Rule.{Rule}
use Rattle.tables.specs.declared.table.Table.{Table}
use Rattle.tables.specs.Environment.{answers_of, table_value, and_then, inside, number_after}
use Rattle.tables.specs.HitPolicy.{TableValue, by_hit}
use Rattle.tables.specs.Inputs.{needs, reads, value_at}
use Rattle.tables.specs.Matching.{value_read, holds_of, cells_hold, matching, rule_matches, is_outside, first_outside}
use Rattle.tables.specs.Plan.{PlanParts}
use Rattle.regions.specs.Regions.{column_literals, literals, rule_literals}
use Rattle.cutplan.specs.InputClasses.{input_literals, name_kind, name_literals, table_literals}
use Rattle.cutplan.specs.ClassWise.{Covers, LiesInClass, Zone, ClassesAreValued, answers_in, cell_holds_in, cells_hold_in, first_outside_in, is_outside_in, matching_in, regions_by, rule_matches_in, table_value_in}
use Rattle.cutplan.proofs.Alike.{Among, among_left, among_right}
use Rattle.cutplan.proofs.ColumnWise.{among_contained, literal_of_rule, value_kind}
use Rattle.cutplan.proofs.Compiling.{at_number, numbered_at}
use Rattle.cutplan.proofs.MaskRules.{among_got}
use Rattle.cutplan.proofs.Overlapping.{among_flat, any_at, contained_among}
use Rattle.cutplan.proofs.OpenRegions.{located}

-- the literals of a column that reads a name are literals of the name
column_named : (tables : List Table) (t : Table) (k place : ℕ) (i : Input) (l : Value) → Among t tables → slice_get t.inputs k ≡ Some i → i.origin ≡ Given place
    → Among l (column_literals t k i.values) → Among l (name_literals tables place)
column_named tables t k place i l t_at i_at e at =
    let zero_more : 0 + k ≡ k = omega arith in
    let numbered = numbered_at 0 t.inputs k i i_at ∙ ap (λ n. Some (at_number n i)) zero_more in
    let reading : reads place i.origin ≡ true = ap (reads place) e ∙ eq-eqb place place refl in
    among_flat (table_literals place) tables t l t_at
    (among_flat (input_literals place t) (enumerate_from 0 t.inputs) (at_number k i) l (among_got (enumerate_from 0 t.inputs) k (at_number k i) numbered)
    (subst (λ b. Among l (cond b (column_literals t k i.values) [])) (sym reading) at))

-- tables need a name if an input of a table reads it
input_needed : (tables : List Table) (t : Table) (k place : ℕ) (i : Input) → Among t tables → slice_get t.inputs k ≡ Some i → i.origin ≡ Given place → needs tables place ≡ true
input_needed tables t k place i t_at i_at e =
    any_at (λ u. list_any (λ j. reads place j.origin) u.inputs) tables t t_at
    (any_at (λ j. reads place j.origin) t.inputs i (among_got t.inputs k i i_at) (ap (reads place) e ∙ eq-eqb place place refl))

-- tests that agree filter alike
pub filter_agrees : {X : Type 0} (p q : X → Bool) → ((x : X) → p x ≡ q x) → (xs : List X) → filter p xs ≡ filter q xs
filter_agrees p q agree [] = refl
filter_agrees p q agree (x ∷ xs) = ap (λ b. cond b (x ∷ filter p xs) (filter p xs)) (agree x) ∙ ap (λ rest. cond (q x) (x ∷ rest) rest) (filter_agrees p q agree xs)

-- tests that agree on the elements of a list find the same first one
pub first_agrees : {X : Type 0} (p q : X → Bool) (xs : List X) → ((k : ℕ) (x : X) → slice_get xs k ≡ Some x → p x ≡ q x) → position_or_len p xs ≡ position_or_len q xs
first_agrees p q [] agree = refl
first_agrees p q (x ∷ xs) agree =
    ap (λ b. cond (not b) (1 + position_or_len p xs) 0) (agree 0 x refl)
    ∙ ap (λ n. cond (not (q x)) (1 + n) 0) (first_agrees p q xs (λ k y at. agree (suc k) y at))

module _ (p : PlanParts) (lits : ℕ → List Value) (given : List Slot) (input_class : Zone) (covers : Covers p lits)
    (lies : (place : ℕ) → needs p.tables place ≡ true → LiesInClass p lits given input_class place) where
  -- a cell holds for a name's value as in its region, if the cell's literals are literals of the
  -- name
  name_asked : (place : ℕ) → needs p.tables place ≡ true → (cell : Cell) → ((l : Value) → Among l (literals cell) → Among l (name_literals p.tables place))
      → holds_of (value_at given place) cell ≡ cell_holds_in input_class [] (Given place) cell
  name_asked place needed cell named =
      let lie = lies place needed in
      let kind = name_kind p place in
      let at = among_contained (regions_by p lits place) (input_class place) lie.region in
      let all : (l : Value) → Among l (literals cell) → Among l (lits place) =
      λ l l_at. among_contained (lits place) l (covers place l (contained_among (name_literals p.tables place) l (named l l_at))) in
      let asked = (located kind (lits place) (input_class place) at lie.value (value_kind kind lie.value lie.of_kind) lie.of_kind lie.inside).asked cell all in
      ap (λ found. holds_of found cell) lie.is ∙ sym asked

  -- a cell holds for what an input reads as in the input class, if the cell's literals are literals
  -- of the column
  pub input_asked : (earlier : List (List Answer)) (t : Table) → Among t p.tables → (k : ℕ) (i : Input) → slice_get t.inputs k ≡ Some i → (cell : Cell)
      → ((l : Value) → Among l (literals cell) → Among l (column_literals t k i.values)) → holds_of (value_read given earlier i.origin) cell ≡ cell_holds_in input_class earlier i.origin cell
  input_asked earlier t t_at k i i_at cell within = by_origin i.origin refl where
    by_origin : (origin : Origin) → i.origin ≡ origin → holds_of (value_read given earlier origin) cell ≡ cell_holds_in input_class earlier origin cell
    by_origin (Given place) e = name_asked place (input_needed p.tables t k place i t_at i_at e) cell (λ l at. column_named p.tables t k place i l t_at i_at e (within l at))
    by_origin (Earlier table column) e = refl

  -- cells that agree one by one agree together
  hold_each : (earlier : List (List Answer)) (inputs : List Input) (cells : List Cell)
      → ((k : ℕ) (i : Input) (c : Cell) → slice_get inputs k ≡ Some i → slice_get cells k ≡ Some c → holds_of (value_read given earlier i.origin) c ≡ cell_holds_in input_class earlier i.origin c)
      → cells_hold given earlier inputs cells ≡ cells_hold_in input_class earlier inputs cells
  hold_each earlier [] cells each = refl
  hold_each earlier (i ∷ is) [] each = refl
  hold_each earlier (i ∷ is) (c ∷ cs) each =
      ap (λ b. b && cells_hold given earlier is cs) (each 0 i c refl refl)
      ∙ ap (λ b. cell_holds_in input_class earlier i.origin c && b) (hold_each earlier is cs (λ k j d j_at d_at. each (suc k) j d j_at d_at))

  pub rule_asked : (earlier : List (List Answer)) (t : Table) → Among t p.tables → (place : ℕ) → rule_matches given earlier t place ≡ rule_matches_in input_class earlier t place
  rule_asked earlier t t_at place = by_rule (slice_get t.rules place) refl where
    by_rule : (found : Option Rule) → slice_get t.rules place ≡ found → option_map_or (λ r. cells_hold given earlier t.inputs r.cells) found false ≡ option_map_or (λ r. cells_hold_in input_class earlier t.inputs r.cells) found false
    by_rule None e = refl
    by_rule (Some r) e =
        hold_each earlier t.inputs r.cells
        (λ k i c i_at c_at. input_asked earlier t t_at k i i_at c
        (λ l l_at. among_left l (flat_map (rule_literals k) t.rules) (option_map_or literals i.values []) (literal_of_rule t.rules k r c l (among_got t.rules place r e) c_at l_at)))

  pub outside_asked : (earlier : List (List Answer)) (t : Table) → Among t p.tables → (k : ℕ) (i : Input) → slice_get t.inputs k ≡ Some i → is_outside given earlier i ≡ is_outside_in input_class earlier i
  outside_asked earlier t t_at k i i_at = by_values i.values refl where
    by_values : (values : Option Cell) → i.values ≡ values
        → option_map_or (λ allowed. not (holds_of (value_read given earlier i.origin) allowed)) values false ≡ option_map_or (λ allowed. not (cell_holds_in input_class earlier i.origin allowed)) values false
    by_values None e = refl
    by_values (Some allowed) e =
        ap not (input_asked earlier t t_at k i i_at allowed
        (λ l l_at. among_right l (flat_map (rule_literals k) t.rules) (option_map_or literals i.values []) (subst (λ vs. Among l (option_map_or literals vs [])) (sym e) l_at)))

  pub table_asked : (earlier : List (List Answer)) (t : Table) → Among t p.tables → table_value given earlier t ≡ table_value_in input_class earlier t
  table_asked earlier t t_at =
      let n = number_after earlier in
      let first : first_outside given earlier t ≡ first_outside_in input_class earlier t =
      ap (λ k. cond (nat_lt k (length t.inputs)) (Some k) None)
      (first_agrees (is_outside given earlier) (is_outside_in input_class earlier) t.inputs (λ k i i_at. outside_asked earlier t t_at k i i_at)) in
      let rules : matching given earlier t ≡ matching_in input_class earlier t =
      filter_agrees (rule_matches given earlier t) (rule_matches_in input_class earlier t) (rule_asked earlier t t_at) (range_with_len 0 (length t.rules)) in
      ap (λ o. inside o n (by_hit t.hit n t (matching given earlier t))) first ∙ ap (λ rs. inside (first_outside_in input_class earlier t) n (by_hit t.hit n t rs)) rules

-- tables that agree one by one agree together
pub tables_asked : (given : List Slot) (input_class : Zone) (tables : List Table) → ((t : Table) (earlier : List (List Answer)) → Among t tables → table_value given earlier t ≡ table_value_in input_class earlier t)
    → (earlier : List (List Answer)) → answers_of given earlier tables ≡ answers_in input_class earlier tables
tables_asked given input_class [] each earlier = refl
tables_asked given input_class (t ∷ ts) each earlier =
    ap (λ (o : TableValue). and_then o (λ more. answers_of given (earlier ++ more ∷ []) ts)) (each t earlier (inl refl))
    ∙ by_value (table_value_in input_class earlier t) (λ more. tables_asked given input_class ts (λ u before at. each u before (inr at)) (earlier ++ more ∷ [])) where
      by_value : (o : TableValue) → ((more : List Answer) → answers_of given (earlier ++ more ∷ []) ts ≡ answers_in input_class (earlier ++ more ∷ []) ts)
          → and_then o (λ more. answers_of given (earlier ++ more ∷ []) ts) ≡ and_then o (λ more. answers_in input_class (earlier ++ more ∷ []) ts)
      by_value (Ok more) rest = rest more
      by_value (Err fault) rest = refl

pub classes_are_valued : ClassesAreValued
classes_are_valued p lits given input_class covers lies =
    tables_asked given input_class p.tables (λ t earlier at. table_asked p lits given input_class covers lies earlier t at) []
