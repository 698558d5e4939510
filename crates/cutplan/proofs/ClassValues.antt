-- All inputs in one input class have the same answers, table by table.
use Rattle.std.proofs.Common.{◌≡◌, ℕ, suc, ◌+◌, ◌<◌, ◌*◌, ◌/◌, ◌%◌, ◌++◌, ◌&&◌, inl, inr, Bool, true, false, not, cond, nat_lt, List, [], ◌∷◌, length, filter, fold, map, Option, Some, None, Ok, Err, refl, ap, sym, ◌∙◌, subst, arith, eq-eqb}
use Rattle.std.specs.List.{flat_map, list_any, slice_get, range_with_len, enumerate_from, position_or_len, zip, AllZip}
use Rattle.std.specs.Option.{option_map_or}
use Rattle.std.proofs.lemmas.Nat.{div-mul-add, mod-mul-add}
use Rattle.std.proofs.lemmas.Option.{same_Some}
use Rattle.feel_tests.specs.declared.cell.Cell.{Cell}
use Rattle.feel_tests.specs.declared.value.Value.{Value}
use Rattle.tables.specs.declared.environment.Answer.{Answer}
use Rattle.tables.specs.declared.inputs.Slot.{Slot}
use Rattle.tables.specs.declared.table.Input.{Input}
use Rattle.tables.specs.declared.table.Origin.{Origin}
use Rattle.tables.specs.declared.table.Origin.TheVariants.{Given, Earlier}
use Rattle.tables.specs.declared.table.Rule.{Rule}
use Rattle.tables.specs.declared.table.Table.{Table}
use Rattle.tables.specs.Environment.{answers_of, table_value, and_then, inside, number_after}
use Rattle.tables.specs.HitPolicy.{TableValue, by_hit}
use Rattle.tables.specs.Inputs.{needs, reads, value_at}
use Rattle.tables.specs.Matching.{value_read, holds_of, cells_hold, matching, rule_matches, is_outside, first_outside}
use Rattle.tables.specs.Plan.{PlanParts}
use Rattle.regions.specs.Regions.{column_literals, literals, rule_literals, is_in}
use Rattle.cutplan.specs.InputClasses.{LiesIn, IsInputClass, ReadsItsNames, ClassesAnswerAlike, input_literals, name_kind, name_literals, name_regions, names_read, region_counts, table_literals, with_place}
use Rattle.cutplan.proofs.Alike.{Among, among_left, among_right}
use Rattle.cutplan.proofs.Between.{index_within}
use Rattle.cutplan.proofs.ByMasks.{lies_at}
use Rattle.cutplan.proofs.ColumnWise.{literal_of_rule, value_kind}
use Rattle.cutplan.proofs.Compiling.{at_number, numbered_at}
use Rattle.cutplan.proofs.MaskRules.{among_got}
use Rattle.cutplan.proofs.Overlapping.{among_flat, among_kept, among_range, any_at}
use Rattle.cutplan.proofs.OpenRegions.{located}

-- two mixed-radix numbers are equal only if their last digits and the numbers before them are equal
one_place : (a b c x y : ℕ) → x < c → y < c → a * c + x ≡ b * c + y → (a ≡ b) × (x ≡ y)
one_place a b c x y x_less y_less same = (
  sym (div-mul-add a c x x_less) ∙ ap (λ n. n / c) same ∙ div-mul-add b c y y_less,
  sym (mod-mul-add a c x x_less) ∙ ap (λ n. n % c) same ∙ mod-mul-add b c y y_less,
)

-- each digit is less than its radix
abbrev Fit : List ℕ → List ℕ → Type 0
Fit counts places = AllZip (λ count place. place < count) counts places

-- a mixed-radix number determines each of its digits
same_places : (a b : ℕ) (counts one other : List ℕ) → Fit counts one → Fit counts other → fold with_place a (zip counts one) ≡ fold with_place b (zip counts other) → (a ≡ b) × (one ≡ other)
same_places a b [] [] [] one_fits other_fits same = (same, refl)
same_places a b [] [] (y ∷ ys) one_fits other_fits same = absurd other_fits
same_places a b [] (x ∷ xs) other one_fits other_fits same = absurd one_fits
same_places a b (c ∷ cs) [] other one_fits other_fits same = absurd one_fits
same_places a b (c ∷ cs) (x ∷ xs) [] one_fits other_fits same = absurd other_fits
same_places a b (c ∷ cs) (x ∷ xs) (y ∷ ys) one_fits other_fits same =
    let rest = same_places (a * c + x) (b * c + y) cs xs ys one_fits.1 other_fits.1 same in
    let here = one_place a b c x y one_fits.0 other_fits.0 rest.0 in
    (here.0, ap (λ z. z ∷ xs) here.1 ∙ ap (λ zs. y ∷ zs) rest.1)

-- the indices of regions are less than the number of regions
places_fit : (p : PlanParts) (given : List Slot) (names places : List ℕ) → AllZip (LiesIn p given) names places → Fit (map (λ place. length (name_regions p place)) names) places
places_fit p given [] [] lie = tt
places_fit p given [] (r ∷ rs) lie = absurd lie
places_fit p given (n ∷ ns) [] lie = absurd lie
places_fit p given (n ∷ ns) (r ∷ rs) lie =
    let at = lies_at (name_regions p n) r lie.0.value lie.0.inside in
    (index_within (name_regions p n) r at.region at.at, places_fit p given ns rs lie.1)

-- each name's values lie in the same region for two inputs of one class
in_one_region : (p : PlanParts) (one other : List Slot) (names places : List ℕ) → AllZip (LiesIn p one) names places → AllZip (LiesIn p other) names places
    → (place : ℕ) → Among place names → (region : ℕ) × LiesIn p one place region × LiesIn p other place region
in_one_region p one other [] places a b place at = absurd at
in_one_region p one other (n ∷ ns) [] a b place at = absurd a
in_one_region p one other (n ∷ ns) (r ∷ rs) a b place (inl e) = (r, subst (λ k. LiesIn p one k r) e a.0, subst (λ k. LiesIn p other k r) e b.0)
in_one_region p one other (n ∷ ns) (r ∷ rs) a b place (inr at) = in_one_region p one other ns rs a.1 b.1 place at

-- a cell holds for both values of a name or for neither, if its literals are literals of the name
region_asked : (p : PlanParts) (one other : List Slot) (place region : ℕ) → LiesIn p one place region → LiesIn p other place region
    → (cell : Cell) → ((l : Value) → Among l (literals cell) → Among l (name_literals p.tables place)) → holds_of (value_at one place) cell ≡ holds_of (value_at other place) cell
region_asked p one other place region a b cell named =
    let kind = name_kind p place in
    let lits = name_literals p.tables place in
    let all = name_regions p place in
    let a_at = lies_at all region a.value a.inside in
    let b_at = lies_at all region b.value b.inside in
    let same : b_at.region ≡ a_at.region = same_Some b_at.region a_at.region (sym b_at.at ∙ a_at.at) in
    let r_at : Among a_at.region all = among_got all region a_at.region a_at.at in
    let b_in : is_in a_at.region b.value ≡ true = subst (λ r. is_in r b.value ≡ true) same b_at.inside in
    let a_asked = (located kind lits a_at.region r_at a.value (value_kind kind a.value a.of_kind) a.of_kind a_at.inside).asked cell named in
    let b_asked = (located kind lits a_at.region r_at b.value (value_kind kind b.value b.of_kind) b.of_kind b_in).asked cell named in
    ap (λ found. holds_of found cell) a.is ∙ sym a_asked ∙ b_asked ∙ sym (ap (λ found. holds_of found cell) b.is)

-- for each name that tables read, cells hold alike for the values in both inputs
abbrev AskedAlike : PlanParts → List Slot → List Slot → Type 0
AskedAlike p one other = (place : ℕ) → needs p.tables place ≡ true → (cell : Cell) → ((l : Value) → Among l (literals cell) → Among l (name_literals p.tables place))
    → holds_of (value_at one place) cell ≡ holds_of (value_at other place) cell

asked_alike : (p : PlanParts) (one other : List Slot) (input_class : ℕ) → ReadsItsNames p → IsInputClass p one input_class → IsInputClass p other input_class → AskedAlike p one other
asked_alike p one other input_class within a b place needed cell named =
    let below = within place needed in
    let there : Among place (names_read p) = among_kept (needs p.tables) place (range_with_len 0 (length p.names)) (among_range 0 (length p.names) place (omega arith) (omega (arith, below))) needed in
    let counts = region_counts p in
    let same = same_places 0 0 counts a.places b.places (places_fit p one (names_read p) a.places a.lie) (places_fit p other (names_read p) b.places b.lie) (a.number ∙ sym b.number) in
    let lie : AllZip (LiesIn p other) (names_read p) a.places = subst (λ places. AllZip (LiesIn p other) (names_read p) places) (sym same.1) b.lie in
    let region = in_one_region p one other (names_read p) a.places a.lie lie place there in
    region_asked p one other place region.0 region.1 region.2 cell named

-- the literals of a column that reads a name are literals of the name
column_named : (tables : List Table) (t : Table) (k place : ℕ) (i : Input) (l : Value) → Among t tables → slice_get t.inputs k ≡ Some i → i.origin ≡ Given place
    → Among l (column_literals t k i.values) → Among l (name_literals tables place)
column_named tables t k place i l t_at i_at e at =
    let zero_more : 0 + k ≡ k = omega arith in
    let numbered = numbered_at 0 t.inputs k i i_at ∙ ap (λ n. Some (at_number n i)) zero_more in
    let reading : reads place i.origin ≡ true = ap (reads place) e ∙ eq-eqb place place refl in
    among_flat (table_literals place) tables t l t_at
    (among_flat (input_literals place t) (enumerate_from 0 t.inputs) (at_number k i) l (among_got (enumerate_from 0 t.inputs) k (at_number k i) numbered)
    (subst (λ b. Among l (cond b (column_literals t k i.values) [])) (sym reading) at))

-- tables need a name if an input of a table reads it
input_needed : (tables : List Table) (t : Table) (k place : ℕ) (i : Input) → Among t tables → slice_get t.inputs k ≡ Some i → i.origin ≡ Given place → needs tables place ≡ true
input_needed tables t k place i t_at i_at e =
    any_at (λ u. list_any (λ j. reads place j.origin) u.inputs) tables t t_at
    (any_at (λ j. reads place j.origin) t.inputs i (among_got t.inputs k i i_at) (ap (reads place) e ∙ eq-eqb place place refl))

-- a cell holds alike for what its input reads in both inputs, if its literals are literals of the
-- column
input_alike : (p : PlanParts) (one other : List Slot) (earlier : List (List Answer)) (t : Table) → AskedAlike p one other → Among t p.tables → (k : ℕ) (i : Input) → slice_get t.inputs k ≡ Some i
    → (cell : Cell) → ((l : Value) → Among l (literals cell) → Among l (column_literals t k i.values)) → holds_of (value_read one earlier i.origin) cell ≡ holds_of (value_read other earlier i.origin) cell
input_alike p one other earlier t asked t_at k i i_at cell inside = by_origin i.origin refl where
  by_origin : (origin : Origin) → i.origin ≡ origin → holds_of (value_read one earlier origin) cell ≡ holds_of (value_read other earlier origin) cell
  by_origin (Given place) e = asked place (input_needed p.tables t k place i t_at i_at e) cell (λ l at. column_named p.tables t k place i l t_at i_at e (inside l at))
  by_origin (Earlier table column) e = refl

-- cells that hold alike one by one hold alike together
hold_each : (one other : List Slot) (earlier : List (List Answer)) (inputs : List Input) (cells : List Cell)
    → ((k : ℕ) (i : Input) (c : Cell) → slice_get inputs k ≡ Some i → slice_get cells k ≡ Some c → holds_of (value_read one earlier i.origin) c ≡ holds_of (value_read other earlier i.origin) c)
    → cells_hold one earlier inputs cells ≡ cells_hold other earlier inputs cells
hold_each one other earlier [] cells each = refl
hold_each one other earlier (i ∷ is) [] each = refl
hold_each one other earlier (i ∷ is) (c ∷ cs) each =
    ap (λ b. b && cells_hold one earlier is cs) (each 0 i c refl refl)
    ∙ ap (λ b. holds_of (value_read other earlier i.origin) c && b) (hold_each one other earlier is cs (λ k j d j_at d_at. each (suc k) j d j_at d_at))

-- a rule matches both inputs or neither
rule_alike : (p : PlanParts) (one other : List Slot) (earlier : List (List Answer)) (t : Table) → AskedAlike p one other → Among t p.tables → (place : ℕ) → rule_matches one earlier t place ≡ rule_matches other earlier t place
rule_alike p one other earlier t asked t_at place = by_rule (slice_get t.rules place) refl where
  by_rule : (found : Option Rule) → slice_get t.rules place ≡ found → option_map_or (λ r. cells_hold one earlier t.inputs r.cells) found false ≡ option_map_or (λ r. cells_hold other earlier t.inputs r.cells) found false
  by_rule None e = refl
  by_rule (Some r) e =
      hold_each one other earlier t.inputs r.cells
      (λ k i c i_at c_at. input_alike p one other earlier t asked t_at k i i_at c
      (λ l l_at. among_left l (flat_map (rule_literals k) t.rules) (option_map_or literals i.values []) (literal_of_rule t.rules k r c l (among_got t.rules place r e) c_at l_at)))

-- tests that agree filter alike
filter_agrees : {X : Type 0} (p q : X → Bool) → ((x : X) → p x ≡ q x) → (xs : List X) → filter p xs ≡ filter q xs
filter_agrees p q agree [] = refl
filter_agrees p q agree (x ∷ xs) = ap (λ b. cond b (x ∷ filter p xs) (filter p xs)) (agree x) ∙ ap (λ rest. cond (q x) (x ∷ rest) rest) (filter_agrees p q agree xs)

-- a column is outside for both inputs or for neither
outside_alike : (p : PlanParts) (one other : List Slot) (earlier : List (List Answer)) (t : Table) → AskedAlike p one other → Among t p.tables → (k : ℕ) (i : Input) → slice_get t.inputs k ≡ Some i
    → is_outside one earlier i ≡ is_outside other earlier i
outside_alike p one other earlier t asked t_at k i i_at = by_values i.values refl where
  by_values : (values : Option Cell) → i.values ≡ values
      → option_map_or (λ allowed. not (holds_of (value_read one earlier i.origin) allowed)) values false ≡ option_map_or (λ allowed. not (holds_of (value_read other earlier i.origin) allowed)) values false
  by_values None e = refl
  by_values (Some allowed) e =
      ap not (input_alike p one other earlier t asked t_at k i i_at allowed
      (λ l l_at. among_right l (flat_map (rule_literals k) t.rules) (option_map_or literals i.values []) (subst (λ vs. Among l (option_map_or literals vs [])) (sym e) l_at)))

-- tests that agree on the elements of a list find the same first one
first_agrees : {X : Type 0} (p q : X → Bool) (xs : List X) → ((k : ℕ) (x : X) → slice_get xs k ≡ Some x → p x ≡ q x) → position_or_len p xs ≡ position_or_len q xs
first_agrees p q [] agree = refl
first_agrees p q (x ∷ xs) agree =
    ap (λ b. cond (not b) (1 + position_or_len p xs) 0) (agree 0 x refl)
    ∙ ap (λ n. cond (not (q x)) (1 + n) 0) (first_agrees p q xs (λ k y at. agree (suc k) y at))

-- a table has the same value for both inputs
table_alike : (p : PlanParts) (one other : List Slot) (earlier : List (List Answer)) (t : Table) → AskedAlike p one other → Among t p.tables → table_value one earlier t ≡ table_value other earlier t
table_alike p one other earlier t asked t_at =
    let n = number_after earlier in
    let first : first_outside one earlier t ≡ first_outside other earlier t =
    ap (λ k. cond (nat_lt k (length t.inputs)) (Some k) None)
    (first_agrees (is_outside one earlier) (is_outside other earlier) t.inputs (λ k i i_at. outside_alike p one other earlier t asked t_at k i i_at)) in
    let rules : matching one earlier t ≡ matching other earlier t =
    filter_agrees (rule_matches one earlier t) (rule_matches other earlier t) (rule_alike p one other earlier t asked t_at) (range_with_len 0 (length t.rules)) in
    ap (λ o. inside o n (by_hit t.hit n t (matching one earlier t))) first ∙ ap (λ rs. inside (first_outside other earlier t) n (by_hit t.hit n t rs)) rules

-- all tables have the same values for both inputs
tables_alike : (one other : List Slot) (tables : List Table) → ((t : Table) (earlier : List (List Answer)) → Among t tables → table_value one earlier t ≡ table_value other earlier t)
    → (earlier : List (List Answer)) → answers_of one earlier tables ≡ answers_of other earlier tables
tables_alike one other [] each earlier = refl
tables_alike one other (t ∷ ts) each earlier =
    ap (λ (o : TableValue). and_then o (λ more. answers_of one (earlier ++ more ∷ []) ts)) (each t earlier (inl refl))
    ∙ by_value (table_value other earlier t) (λ more. tables_alike one other ts (λ u before at. each u before (inr at)) (earlier ++ more ∷ [])) where
      by_value : (o : TableValue) → ((more : List Answer) → answers_of one (earlier ++ more ∷ []) ts ≡ answers_of other (earlier ++ more ∷ []) ts)
          → and_then o (λ more. answers_of one (earlier ++ more ∷ []) ts) ≡ and_then o (λ more. answers_of other (earlier ++ more ∷ []) ts)
      by_value (Ok more) rest = rest more
      by_value (Err fault) rest = refl

pub classes_answer_alike : ClassesAnswerAlike
classes_answer_alike p one other input_class within a b =
    let asked = asked_alike p one other input_class within a b in
    let answers : answers_of one [] p.tables ≡ answers_of other [] p.tables = tables_alike one other p.tables (λ t earlier at. table_alike p one other earlier t asked at) [] in
    cc
