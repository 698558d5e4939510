-- The masks of a table's first columns determine the rules that match in these columns.
use Rattle.std.proofs.Common.{◌≡◌, ℕ, zero, suc, ◌+◌, ◌-◌, ◌<◌, ◌≤◌, ◌&&◌, ◌||◌, Bool, true, false, not, List, [], ◌∷◌, length, get_or, map, take, Some, refl, ap, sym, subst, ◌∙◌, add-one, arith}
use Rattle.std.specs.Prelude.{nat_lt, Result}
use Rattle.std.specs.List.{flat_map, list_any, slice_get, AllZip}
use Rattle.std.specs.Option.{option_map_or}
use Rattle.std.proofs.lemmas.Bool.{both_ways, and_from, le-ltb}
use Rattle.std.proofs.lemmas.List.{take_all}
use Rattle.std.proofs.lemmas.Option.{none-some, same_Some}
use Rattle.feel_tests.specs.Holds.{holds}
use Rattle.feel_tests.specs.declared.cell.Cell.{Cell}
use Rattle.feel_tests.specs.declared.value.Value.{Value}
use Rattle.tables.specs.declared.environment.Answer.{Answer}
use Rattle.tables.specs.declared.inputs.Slot.{Slot}
use Rattle.tables.specs.declared.table.Input.{Input}
use Rattle.tables.specs.declared.table.Rule.{Rule}
use Rattle.tables.specs.declared.table.Table.{Table}
use Rattle.faults.specs.declared.fault.Fault.{Fault}
use Rattle.tables.specs.Environment.{table_value, inside, number_after}
use Rattle.tables.specs.HitPolicy.{Gives, by_hit}
use Rattle.tables.specs.Matching.{value_read, holds_of, cells_hold, matching, rule_matches, is_outside}
use Rattle.tables.specs.Plan.{PlanParts}
use Rattle.cutplan.specs.declared.compiled_column.CompiledColumn.{CompiledColumn}
use Rattle.regions.specs.declared.region.Region.{Region}
use Rattle.regions.specs.Values.{is_value, kind_read}
use Rattle.regions.specs.Regions.{column_of, columns_from, column_literals, rule_literals, literals, regions, is_allowed, is_in, table_regions}
use Rattle.cutplan.specs.Check.{rule_cells}
use Rattle.cutplan.specs.Masks.{has_rule, rules_in, is_marked, Marks, AreMasks, AreMasksOf, IsColumnNumber}
use Rattle.cutplan.specs.Matching.{has_at, IsMatchingMask}
use Rattle.cutplan.specs.CompiledColumns.{AreKept, AreCompiledColumns, IsCut, IsCompiledColumn, IsMaskOf, IsMaskRead}
use Rattle.cutplan.proofs.Alike.{Among, among_right}
use Rattle.cutplan.proofs.MaskRules.{among_got, column_marks, rules_match}
use Rattle.cutplan.proofs.FirstRules.{less_alike}
use Rattle.cutplan.proofs.Compiling.{at_place, column_kept, column_within, kept_long}
use Rattle.cutplan.proofs.Matched.{inside_alike, listed_allowed, none_first}
use Rattle.cutplan.proofs.GapLists.{not_so}

-- in the first columns, no value is outside, and the mask has the rules whose cells hold
pub record AreMet (given : List Slot) (earlier : List (List Answer)) (t : Table) (column : ℕ) (mask : List ℕ) : Type 0 where
  pub inside : list_any (is_outside given earlier) (take column t.inputs) ≡ false
  pub marks : Marks (λ place. nat_lt place (length t.rules) && cells_hold given earlier (take column t.inputs) (rule_cells t place)) mask

and_true : (b : Bool) → (b && true) ≡ b
and_true true = refl
and_true false = refl

and_all : (a b c : Bool) → ((a && b) && c) ≡ (a && (b && c))
and_all true b c = refl
and_all false b c = refl

or_false : (b : Bool) → (b || false) ≡ b
or_false true = refl
or_false false = refl

or_all : (a b c : Bool) → (a || (b || c)) ≡ ((a || b) || c)
or_all true b c = refl
or_all false b c = refl

-- the cell in the next column holds, if there is one
abbrev next_holds : List Slot → List (List Answer) → List Cell → ℕ → Input → Bool
next_holds given earlier cells column input = option_map_or (λ cell. holds_of (value_read given earlier input.origin) cell) (slice_get cells column) true

-- the cells of the first columns, extended by one column
cells_more : (given : List Slot) (earlier : List (List Answer)) (inputs : List Input) (cells : List Cell) (column : ℕ) (input : Input) → slice_get inputs column ≡ Some input
    → cells_hold given earlier (take (suc column) inputs) cells ≡ (cells_hold given earlier (take column inputs) cells && next_holds given earlier cells column input)
cells_more given earlier [] cells column input at = absurd (none-some input at)
cells_more given earlier (i ∷ is) [] zero input at = refl
cells_more given earlier (i ∷ is) (c ∷ cs) zero input at = ap (λ x. holds_of (value_read given earlier x.origin) c && true) (same_Some i input at) ∙ and_true (holds_of (value_read given earlier input.origin) c)
cells_more given earlier (i ∷ is) [] (suc column) input at = refl
cells_more given earlier (i ∷ is) (c ∷ cs) (suc column) input at =
    let first = holds_of (value_read given earlier i.origin) c in
    ap (λ b. first && b) (cells_more given earlier is cs column input at) ∙ sym (and_all first (cells_hold given earlier (take column is) cs) (next_holds given earlier cs column input))

-- the columns that are outside, extended by one column
outside_more : (q : Input → Bool) (inputs : List Input) (column : ℕ) (input : Input) → slice_get inputs column ≡ Some input → list_any q (take (suc column) inputs) ≡ (list_any q (take column inputs) || q input)
outside_more q [] column input at = absurd (none-some input at)
outside_more q (i ∷ is) zero input at = or_false (q i) ∙ ap q (same_Some i input at)
outside_more q (i ∷ is) (suc column) input at = ap (λ b. q i || b) (outside_more q is column input at) ∙ or_all (q i) (list_any q (take column is)) (q input)

-- elements at the same index of two related lists are related
zip_at : {X Y : Type 0} (R : X → Y → Type 0) (xs : List X) (ys : List Y) (i : ℕ) (x : X) (y : Y) → AllZip R xs ys → slice_get xs i ≡ Some x → slice_get ys i ≡ Some y → R x y
zip_at R [] ys i x y all at there = absurd (none-some x at)
zip_at R (z ∷ zs) [] i x y all at there = absurd all
zip_at R (z ∷ zs) (w ∷ ws) zero x y all at there = subst (λ a. R a y) (same_Some z x at) (subst (λ b. R z b) (same_Some w y there) all.0)
zip_at R (z ∷ zs) (w ∷ ws) (suc i) x y all at there = zip_at R zs ws i x y all.1 at there

-- the region at this index contains the value
pub record LiesAt (regions : List Region) (place : ℕ) (v : Value) : Type 0 where
  pub region : Region
  pub at : slice_get regions place ≡ Some region
  pub inside : is_in region v ≡ true

pub lies_at : (regions : List Region) (place : ℕ) (v : Value) → has_at regions place v ≡ true → LiesAt regions place v
lies_at [] place v has = absurd (both_ways false refl has)
lies_at (r ∷ rs) zero v has = record { region = r; at = refl; inside = has }
lies_at (r ∷ rs) (suc place) v has = let more = lies_at rs place v has in record { region = more.region; at = more.at; inside = more.inside }

-- the value that the column reads is allowed, and the mask has the rules whose cell holds for it
pub record IsRead (given : List Slot) (earlier : List (List Answer)) (t : Table) (column : ℕ) (input : Input) (mask : List ℕ) : Type 0 where
  pub inside : is_outside given earlier input ≡ false
  pub has : (place : ℕ) → place < 256 → has_rule mask place ≡ (nat_lt place (length t.rules) && next_holds given earlier (rule_cells t place) column input)

-- the mask of the region that contains the value that a column reads
pub one_read : (p : PlanParts) (given : List Slot) (earlier : List (List Answer)) (t : Table) (column : ℕ) (input : Input) (kept : CompiledColumn) (v : Value) (mask : List ℕ)
    → IsCompiledColumn p t column input kept → value_read given earlier kept.origin ≡ Some v → IsMaskOf kept v mask → IsRead given earlier t column input mask
one_read p given earlier t column input kept v mask is_kept reads is =
    let rs = regions (column_of p t column input) in
    let read : value_read given earlier input.origin ≡ Some v = ap (value_read given earlier) (sym is_kept.origin) ∙ reads in
    let of_kind : is_value (kind_read p input.origin) v ≡ true = subst (λ kind. is_value kind v ≡ true) is_kept.partition.kind is.is.of_kind in
    let within : has_at rs is.place v ≡ true = subst (λ xs. has_at xs is.place v ≡ true) is_kept.partition.listed is.is.inside in
    let all : AreMasks t column rs kept.masks = subst (λ xs. AreMasks t column xs kept.masks) is_kept.partition.listed is_kept.masks in
    let there = lies_at rs is.place v within in
    let r_at : Among there.region rs = among_got rs is.place there.region there.at in
    let lits = column_literals t column input.values in
    let allowed = listed_allowed (kind_read p input.origin) lits input.values (λ l l_at. among_right l (flat_map (rule_literals column) t.rules) (option_map_or literals input.values []) l_at) v of_kind there.region r_at there.inside in
    let so : is_allowed (column_of p t column input) v ≡ true = and_from (is_value (kind_read p input.origin) v) (option_map_or (λ cell. holds cell v) input.values true) of_kind allowed in
    let marks = zip_at (λ region mask. Marks (is_marked t column region) mask) rs kept.masks is.place there.region mask all there.at is.mask_at in
    record {
      inside = ap (λ found. option_map_or (λ cell. not (holds_of found cell)) input.values false) read
          ∙ not_so (option_map_or (λ cell. not (holds_of (Some v) cell)) input.values false) (sym (inside_alike input.values v) ∙ allowed);
      has = λ place within.
          column_marks p t column input there.region v mask r_at so there.inside marks place within
          ∙ ap (λ found. nat_lt place (length t.rules) && option_map_or (λ cell. holds_of found cell) (slice_get (rule_cells t place) column) true) (sym read);
    }

both : (a b c : Bool) → ((a && b) && (a && c)) ≡ (a && (b && c))
both true b c = refl
both false b c = refl

-- the first columns, extended by one column
pub more_met : (given : List Slot) (earlier : List (List Answer)) (t : Table) (column : ℕ) (input : Input) (mask read new : List ℕ) → slice_get t.inputs column ≡ Some input → AreMet given earlier t column mask
    → IsRead given earlier t column input read → length new ≡ 4 → ((place : ℕ) → place < 256 → has_rule new place ≡ (has_rule mask place && has_rule read place)) → AreMet given earlier t (column + 1) new
more_met given earlier t column input mask read new at met is words has = subst (λ n. AreMet given earlier t n new) (sym (add-one column)) met_more where
  met_more : AreMet given earlier t (suc column) new
  met_more = record {
    inside = outside_more (is_outside given earlier) t.inputs column input at ∙ ap (λ b. b || is_outside given earlier input) met.inside ∙ is.inside;
    marks = record {
      words = words;
      has = λ place within.
          let few = nat_lt place (length t.rules) in
          let so_far = cells_hold given earlier (take column t.inputs) (rule_cells t place) in
          let next = next_holds given earlier (rule_cells t place) column input in
          has place within ∙ ap (λ b. b && has_rule read place) (met.marks.has place within) ∙ ap (λ b. (few && so_far) && b) (is.has place within)
          ∙ both few so_far next ∙ ap (λ b. few && b) (sym (cells_more given earlier t.inputs (rule_cells t place) column input at));
    };
  }

-- the regions of the column at an index
regions_at : (p : PlanParts) (t : Table) (n : ℕ) (inputs : List Input) (column : ℕ) (input : Input) → slice_get inputs column ≡ Some input
    → slice_get (map regions (columns_from p t n inputs)) column ≡ Some (regions (column_of p t (n + column) input))
regions_at p t n [] column input at = absurd (none-some input at)
regions_at p t n (i ∷ is) zero input at =
    let here : n ≡ n + 0 = omega arith in
    ap (λ x. Some (regions (column_of p t n x))) (same_Some i input at) ∙ ap (λ k. Some (regions (column_of p t k input))) here
regions_at p t n (i ∷ is) (suc column) input at =
    let there : (n + 1) + column ≡ n + suc column = omega arith in
    regions_at p t (n + 1) is column input at ∙ ap (λ k. Some (regions (column_of p t k input))) there

-- the regions of a column are at its index in the table's regions
pub column_regions : (p : PlanParts) (t : Table) (columns : List (List Region)) (column : ℕ) (input : Input) (rs : List Region) → columns ≡ table_regions p t → slice_get t.inputs column ≡ Some input → slice_get columns column ≡ Some rs
    → regions (column_of p t column input) ≡ rs
column_regions p t columns column input rs are at rs_at =
    let zero_more : 0 + column ≡ column = omega arith in
    let here = regions_at p t 0 t.inputs column input at ∙ ap (λ k. Some (regions (column_of p t k input))) zero_more in
    same_Some (regions (column_of p t column input)) rs (sym here ∙ ap (λ cs. slice_get cs column) (sym are) ∙ rs_at)

-- before the first column, all rules are left
pub none_met : (given : List Slot) (earlier : List (List Answer)) (t : Table) (mask : List ℕ) → Marks (λ place. nat_lt place (length t.rules)) mask → AreMet given earlier t 0 mask
none_met given earlier t mask marks = record {
  inside = refl;
  marks = record { words = marks.words; has = λ place within. marks.has place within ∙ sym (and_true (nat_lt place (length t.rules))) };
}

-- a rule matches if it exists and all its cells hold
cells_match : (given : List Slot) (earlier : List (List Answer)) (t : Table) (place : ℕ)
    → (nat_lt place (length t.rules) && cells_hold given earlier t.inputs (rule_cells t place)) ≡ (nat_lt place (length t.rules) && rule_matches given earlier t place)
cells_match given earlier t place = by_rule t.rules place where
  by_rule : (rules : List Rule) (place : ℕ)
      → (nat_lt place (length rules) && cells_hold given earlier t.inputs (option_map_or (λ r. r.cells) (slice_get rules place) []))
      ≡ (nat_lt place (length rules) && option_map_or (λ r. cells_hold given earlier t.inputs r.cells) (slice_get rules place) false)
  by_rule [] place = ap (λ b. b && cells_hold given earlier t.inputs []) (le-ltb place 0 (omega arith)) ∙ sym (ap (λ b. b && false) (le-ltb place 0 (omega arith)))
  by_rule (r ∷ rs) zero = refl
  by_rule (r ∷ rs) (suc place) =
      let less = less_alike (suc place) (suc (length rs)) place (length rs) (λ below. omega (arith, below)) (λ above. omega (arith, above)) in
      ap (λ b. b && cells_hold given earlier t.inputs (option_map_or (λ x. x.cells) (slice_get rs place) [])) less ∙ by_rule rs place
      ∙ sym (ap (λ b. b && option_map_or (λ x. cells_hold given earlier t.inputs x.cells) (slice_get rs place) false) less)

-- after the last column, the mask has the matching rules
pub all_met : (given : List Slot) (earlier : List (List Answer)) (t : Table) (column : ℕ) (mask : List ℕ) → length t.inputs ≤ column → AreMet given earlier t column mask → IsMatchingMask given earlier t mask
all_met given earlier t column mask last met =
    let whole : take column t.inputs ≡ t.inputs = take_all column t.inputs last in
    record {
      inside = none_first (is_outside given earlier) t.inputs (ap (list_any (is_outside given earlier)) (sym whole) ∙ met.inside);
      marks = record {
        words = met.marks.words;
        has = λ place within.
            met.marks.has place within ∙ ap (λ inputs. nat_lt place (length t.rules) && cells_hold given earlier inputs (rule_cells t place)) whole ∙ cells_match given earlier t place;
      };
    }

-- the element at an index
pub got_at : {X : Type 0} (xs : List X) (i : ℕ) (x : X) → i < length xs → x ≡ get_or xs i x → slice_get xs i ≡ Some x
got_at [] i x below is = absurd (omega (arith, below))
got_at (y ∷ ys) zero x below is = ap (λ z. Some z) (sym is)
got_at (y ∷ ys) (suc i) x below is = got_at ys i x (omega (arith, below)) is

-- the element that a lookup finds at an index
pub found_at : {X : Type 0} (xs : List X) (i : ℕ) (x : X) → true ≡ nat_lt i (length xs) → x ≡ get_or xs i x → slice_get xs i ≡ Some x
found_at [] i x below is = absurd (both_ways false refl (sym (below ∙ le-ltb i 0 (omega arith))))
found_at (y ∷ ys) zero x below is = ap (λ z. Some z) (sym is)
found_at (y ∷ ys) (suc i) x below is = found_at ys i x (below ∙ less_alike (suc i) (suc (length ys)) i (length ys) (λ less. omega (arith, less)) (λ more. omega (arith, more))) is

-- each compiled column has an input
pub input_at : (p : PlanParts) (t : Table) (kept : List CompiledColumn) (i : ℕ) (column : CompiledColumn) → AreCompiledColumns p t kept → i < length kept → column ≡ get_or kept i column
    → (input : Input) × (slice_get t.inputs i ≡ Some input) × IsCompiledColumn p t i input column
input_at p t kept i column all below is =
    let long = kept_long p t kept all in
    let found = at_place t.inputs i (omega (arith, long, below)) in
    (found.0, found.1, column_kept p t kept i found.0 column all found.1 is)

-- the mask of a compiled column extends the first columns by one
pub column_met : (t : Table) (kept : List CompiledColumn) (given : List Slot) (earlier : List (List Answer)) (i : ℕ) (column : CompiledColumn) (mask read new : List ℕ) → AreKept t kept → i < length kept → column ≡ get_or kept i column
    → IsMaskRead given earlier column read → AreMet given earlier t i mask → length new ≡ 4
    → ((place : ℕ) → place < 256 → has_rule new place ≡ (has_rule mask place && has_rule read place)) → AreMet given earlier t (i + 1) new
column_met t kept given earlier i column mask read new all below is is_read met words has =
    let found = input_at all.plan t kept i column all.columns below is in
    more_met given earlier t i found.0 mask read new found.1 met (one_read all.plan given earlier t i found.0 column is_read.value read found.2 is_read.read is_read.is) words has

-- after the last compiled column, the mask has the matching rules
pub kept_met : (t : Table) (kept : List CompiledColumn) (given : List Slot) (earlier : List (List Answer)) (i : ℕ) (mask : List ℕ) → AreKept t kept → length kept ≤ i → AreMet given earlier t i mask → IsMatchingMask given earlier t mask
kept_met t kept given earlier i mask all last met =
    let long = kept_long all.plan t kept all.columns in
    all_met given earlier t i mask (omega (arith, long, last)) met

-- the compiled columns at the index of a table are those of the table
pub kept_at : (p : PlanParts) (kept : List (List CompiledColumn)) (place : ℕ) (t : Table) (columns : List CompiledColumn) → IsCut p kept → slice_get p.tables place ≡ Some t → slice_get kept place ≡ Some columns → AreCompiledColumns p t columns
kept_at p kept place t columns cut at there = zip_at (AreCompiledColumns p) p.tables kept place t columns cut.columns at there

-- the compiled masks of a column are its masks
pub column_masks : (p : PlanParts) (number column : ℕ) (kept : List CompiledColumn) (found : CompiledColumn) → ((t : Table) → slice_get p.tables (number - 1) ≡ Some t → AreCompiledColumns p t kept)
    → IsColumnNumber p number column → found ≡ get_or kept (column - 1) found → AreMasksOf p number column found.masks
column_masks p number column kept found all place is t regions at there =
    let input = input_at p t kept (column - 1) found (all t at) (column_within p number column t kept (all t at) at place) is in
    let listed = column_regions p t (table_regions p t) (column - 1) input.0 regions refl input.1 there in
    subst (λ rs. AreMasks t (column - 1) rs found.masks) (input.2.partition.listed ∙ listed) input.2.masks

-- the value of a table whose matching rules are those of a mask
pub value_by_mask : (given : List Slot) (earlier : List (List Answer)) (t : Table) (mask : List ℕ) (result : Result (List Answer) Fault) → IsMatchingMask given earlier t mask → length t.rules ≤ 256
    → Gives (by_hit t.hit (number_after earlier) t (rules_in (length t.rules) mask)) result → Gives (table_value given earlier t) result
value_by_mask given earlier t mask result is few gives =
    let value : table_value given earlier t ≡ by_hit t.hit (number_after earlier) t (rules_in (length t.rules) mask) =
    ap (λ found. inside found (number_after earlier) (by_hit t.hit (number_after earlier) t (matching given earlier t))) is.inside
    ∙ ap (by_hit t.hit (number_after earlier) t) (sym (rules_match mask given earlier t few is.marks.has)) in
    subst (λ outcome. Gives outcome result) (sym value) gives
