-- A rule that fits the values that are read matches, and allowed values are inside. So gaps and
-- overlaps are statements about matches.
use Rattle.std.proofs.Common.{◌≡◌, ℕ, zero, suc, ◌+◌, ◌-◌, ◌≤◌, ◌<◌, ◌&&◌, ◌||◌, inl, inr, Bool, true, false, not, cond, List, [], ◌∷◌, length, map, filter, Option, Some, None, Contains, refl, ap, sym, ◌∙◌, subst, arith}
use Rattle.std.specs.Prelude.{nat_lt}
use Rattle.std.specs.List.{flat_map, list_any, range_with_len, slice_get, position, position_or_len}
use Rattle.std.specs.Option.{option_map_or}
use Rattle.std.proofs.lemmas.Bool.{both_ways, and_parts, and_from, or_parts, false_from_ne_true, lt-ltb, le-ltb}
use Rattle.feel_tests.specs.Holds.{holds}
use Rattle.feel_tests.specs.declared.cell.Cell.{Cell}
use Rattle.feel_tests.specs.declared.kind.Kind.{Kind}
use Rattle.feel_tests.specs.declared.value.Value.{Value}
use Rattle.tables.specs.declared.environment.Answer.{Answer}
use Rattle.tables.specs.declared.inputs.Slot.{Slot}
use Rattle.tables.specs.declared.table.Input.{Input}
use Rattle.tables.specs.declared.table.Table.{Table}
use Rattle.tables.specs.Matching.{value_read, holds_of, cells_hold, rule_matches, matching, is_outside}
use Rattle.tables.specs.Plan.{PlanParts, has_kind}
use Rattle.regions.specs.declared.region.Region.{Region}
use Rattle.regions.specs.Values.{is_value, kind_read, sort_values}
use Rattle.regions.specs.Regions.{Column, columns, columns_from, column_of, column_literals, rule_literals, literals, regions, stretches, has_value, holds_in, is_listed, is_allowed, is_in, table_regions}
use Rattle.cutplan.specs.Check.{is_allowed_tuple, fits, rule_cells, lies_in, cells, covers, gaps}
use Rattle.cutplan.specs.Laws.{ReadsTuple, are_values, FitsAreMatches, AllowedAreInside, GapsMatchNothing, OverlapsMatchTogether}
use Rattle.cutplan.proofs.Alike.{Among, among_right}
use Rattle.cutplan.proofs.ColumnWise.{among_contained, among_unfilter, value_kind}
use Rattle.cutplan.proofs.Holding.{among_passes}
use Rattle.cutplan.proofs.Overlapping.{any_from, any_at, among_range, among_kept, contained_among, reports_overlaps}
use Rattle.cutplan.proofs.OpenRegions.{located}
use Rattle.cutplan.proofs.GapLists.{among_front, fits_none, not_so, tells_gaps}

-- a rule's cells hold for what is read if and only if they fit it
hold_alike : (given : List Slot) (earlier : List (List Answer)) (inputs : List Input) (cells : List Cell) (tuple : List Value)
    → map (λ i. value_read given earlier i.origin) inputs ≡ map (λ v. Some v) tuple → cells_hold given earlier inputs cells ≡ fits cells tuple
hold_alike given earlier [] cells [] e = sym (fits_none cells)
hold_alike given earlier [] cells (v ∷ vs) e = absurd cc
hold_alike given earlier (i ∷ is) cells [] e = absurd cc
hold_alike given earlier (i ∷ is) [] (v ∷ vs) e = refl
hold_alike given earlier (i ∷ is) (c ∷ cs) (v ∷ vs) e =
    let here : value_read given earlier i.origin ≡ Some v = cc in
    let rest : map (λ x. value_read given earlier x.origin) is ≡ map (λ x. Some x) vs = cc in
    ap (λ found. holds_of found c && cells_hold given earlier is cs) here ∙ ap (λ b. holds c v && b) (hold_alike given earlier is cs vs rest)

-- each index within a list has an element
at_place : {X : Type 0} (xs : List X) (n : ℕ) → n < length xs → (x : X) × (slice_get xs n ≡ Some x) × Among x xs
at_place [] n below = absurd (omega (arith, below))
at_place (y ∷ ys) zero below = (y, refl, inl refl)
at_place (y ∷ ys) (suc n) below = let more = at_place ys n (omega (arith, below)) in (more.0, more.1, inr more.2)

-- each element has an index
place_of : {X : Type 0} (xs : List X) (x : X) → Among x xs → (n : ℕ) × (n < length xs) × (slice_get xs n ≡ Some x)
place_of [] x at = absurd at
place_of (y ∷ ys) x (inl e) = (0, omega arith, ap Some e)
place_of (y ∷ ys) x (inr at) = let more = place_of ys x at in (suc more.0, omega (arith, more.1), more.2)

-- a rule matches what is read if and only if it fits it
matches_alike : (given : List Slot) (earlier : List (List Answer)) (t : Table) (tuple : List Value) → ReadsTuple given earlier t tuple → (place : ℕ) → place < length t.rules
    → rule_matches given earlier t place ≡ fits (rule_cells t place) tuple
matches_alike given earlier t tuple reads place below =
    let rule = at_place t.rules place below in
    ap (λ found. option_map_or (λ r. cells_hold given earlier t.inputs r.cells) found false) rule.1 ∙ hold_alike given earlier t.inputs rule.0.cells tuple reads
    ∙ ap (λ found. fits (option_map_or (λ r. r.cells) found []) tuple) (sym rule.1)

pub fits_are_matches : FitsAreMatches
fits_are_matches given earlier t tuple reads place below =
    let same = matches_alike given earlier t tuple reads place below in
    let places = range_with_len 0 (length t.rules) in (
      λ fit. contained_among (matching given earlier t) place
          (among_kept (rule_matches given earlier t) place places (among_range 0 (length t.rules) place (omega arith) (omega (arith, below))) (same ∙ fit)),
      λ found. sym same ∙ among_passes (rule_matches given earlier t) place places (among_contained (matching given earlier t) place found),
    )

-- the index of the first element that passes a test is within the list if some element passes
first_below : {X : Type 0} (p : X → Bool) (xs : List X) → list_any p xs ≡ true → position_or_len p xs < length xs
first_below p [] e = absurd (both_ways false refl e)
first_below p (x ∷ xs) e =
    elim (p x) as (λ b. (b || list_any p xs) ≡ true → cond (not b) (1 + position_or_len p xs) 0 < suc (length xs)) [
      | true ↦ λ here. omega arith
      | false ↦ λ more. (let rest = first_below p xs more in omega (arith, rest))
    ] e

first_beyond : {X : Type 0} (p : X → Bool) (xs : List X) → list_any p xs ≡ false → position_or_len p xs ≡ length xs
first_beyond p [] e = refl
first_beyond p (x ∷ xs) e =
    let parts = or_parts (p x) (list_any p xs) e in
    let here : position_or_len p (x ∷ xs) ≡ 1 + position_or_len p xs = ap (λ b. cond (not b) (1 + position_or_len p xs) 0) parts.0 in
    let rest = first_beyond p xs parts.1 in
    omega (arith, here, rest)

pub none_first : {X : Type 0} (p : X → Bool) (xs : List X) → list_any p xs ≡ false → position p xs ≡ None
none_first p xs e =
    let last = first_beyond p xs e in
    let beyond : nat_lt (position_or_len p xs) (length xs) ≡ false = le-ltb (position_or_len p xs) (length xs) (omega (arith, last)) in
    ap (λ b. cond b (Some (position_or_len p xs)) None) beyond

no_first : {X : Type 0} (p : X → Bool) (xs : List X) → position p xs ≡ None → list_any p xs ≡ false
no_first p xs e =
    false_from_ne_true (list_any p xs)
    (λ some.
    let there : position p xs ≡ Some (position_or_len p xs) = ap (λ b. cond b (Some (position_or_len p xs)) None) (lt-ltb (position_or_len p xs) (length xs) (first_below p xs some)) in
    absurd cc)

-- allowed values of a column
not_not : (b : Bool) → not (not b) ≡ b
not_not true = refl
not_not false = refl

neither : (a b : Bool) → not (a || b) ≡ (not a && not b)
neither true b = refl
neither false b = refl

pub inside_alike : (values : Option Cell) (v : Value) → option_map_or (λ cell. holds cell v) values true ≡ not (option_map_or (λ cell. not (holds_of (Some v) cell)) values false)
inside_alike None v = refl
inside_alike (Some cell) v = sym (not_not (holds cell v))

-- values that are read are allowed if and only if none is outside
allowed_alike : (p : PlanParts) (given : List Slot) (earlier : List (List Answer)) (t : Table) (k : ℕ) (inputs : List Input) (tuple : List Value)
    → map (λ i. value_read given earlier i.origin) inputs ≡ map (λ v. Some v) tuple → are_values (columns_from p t k inputs) tuple ≡ true
    → is_allowed_tuple (columns_from p t k inputs) tuple ≡ not (list_any (is_outside given earlier) inputs)
allowed_alike p given earlier t k [] [] e values = refl
allowed_alike p given earlier t k [] (v ∷ vs) e values = absurd cc
allowed_alike p given earlier t k (i ∷ is) [] e values = absurd cc
allowed_alike p given earlier t k (i ∷ is) (v ∷ vs) e values =
    let here : value_read given earlier i.origin ≡ Some v = cc in
    let rest : map (λ x. value_read given earlier x.origin) is ≡ map (λ x. Some x) vs = cc in
    let parts = and_parts (is_value (kind_read p i.origin) v) (are_values (columns_from p t (k + 1) is) vs) values in
    let outside = is_outside given earlier i in
    let first : is_allowed (column_of p t k i) v ≡ not outside =
    ap (λ b. b && option_map_or (λ cell. holds cell v) i.values true) parts.0 ∙ inside_alike i.values v
    ∙ ap (λ found. not (option_map_or (λ cell. not (holds_of found cell)) i.values false)) (sym here) in
    ap (λ b. b && is_allowed_tuple (columns_from p t (k + 1) is) vs) first ∙ ap (λ b. not outside && b) (allowed_alike p given earlier t (k + 1) is vs rest parts.1)
    ∙ sym (neither outside (list_any (is_outside given earlier) is))

pub allowed_are_inside : AllowedAreInside
allowed_are_inside p given earlier t tuple reads values =
    let alike = allowed_alike p given earlier t 0 t.inputs tuple reads values in (
      λ allowed. none_first (is_outside given earlier) t.inputs (not_so (list_any (is_outside given earlier) t.inputs) (sym alike ∙ allowed)),
      λ none. alike ∙ ap not (no_first (is_outside given earlier) t.inputs none),
    )

-- a value of the kind that lies in a listed region is allowed
pub listed_allowed : (kind : Kind) (lits : List Value) (values : Option Cell) → ((l : Value) → Among l (option_map_or literals values []) → Among l lits) → (v : Value) → is_value kind v ≡ true
    → (r : Region) → Among r (filter (is_listed values) (stretches kind (sort_values (filter (has_kind kind) lits)))) → is_in r v ≡ true → option_map_or (λ cell. holds cell v) values true ≡ true
listed_allowed kind lits None inside v value r at in_v = refl
listed_allowed kind lits (Some cell) inside v value r at in_v =
    let all = stretches kind (sort_values (filter (has_kind kind) lits)) in
    let parts = and_parts (has_value r) (holds_in cell r) (among_passes (is_listed (Some cell)) r all at) in
    sym ((located kind lits r (among_unfilter (is_listed (Some cell)) r all at) v (value_kind kind v value) value in_v).asked cell inside) ∙ parts.1

-- values of the columns' kinds that lie in a cell are allowed
cell_allowed : (p : PlanParts) (t : Table) (k : ℕ) (inputs : List Input) (cell : List Region) (tuple : List Value) → Among cell (cells (map regions (columns_from p t k inputs)))
    → are_values (columns_from p t k inputs) tuple ≡ true → lies_in cell tuple ≡ true → is_allowed_tuple (columns_from p t k inputs) tuple ≡ true
cell_allowed p t k [] cell [] at values lies = refl
cell_allowed p t k [] cell (v ∷ vs) (inl e) values lies = absurd (both_ways false refl (ap (λ c. lies_in c (v ∷ vs)) e ∙ lies))
cell_allowed p t k [] cell (v ∷ vs) (inr none) values lies = absurd none
cell_allowed p t k (i ∷ is) cell tuple at values lies =
    let front = among_front cell (regions (column_of p t k i)) (cells (map regions (columns_from p t (k + 1) is))) at in
    by_tuple front.0 front.1 tuple front.3 (λ vs of_kind lie. cell_allowed p t (k + 1) is front.1 vs front.4 of_kind lie) (ap (λ c. lies_in c tuple) front.2 ∙ lies) values where
      by_tuple : (r : Region) (rest : List Region) (tuple : List Value) → Among r (regions (column_of p t k i))
          → ((vs : List Value) → are_values (columns_from p t (k + 1) is) vs ≡ true → lies_in rest vs ≡ true → is_allowed_tuple (columns_from p t (k + 1) is) vs ≡ true)
          → lies_in (r ∷ rest) tuple ≡ true → are_values (column_of p t k i ∷ columns_from p t (k + 1) is) tuple ≡ true → is_allowed_tuple (column_of p t k i ∷ columns_from p t (k + 1) is) tuple ≡ true
      by_tuple r rest [] r_at more lies values = absurd (both_ways false refl lies)
      by_tuple r rest (v ∷ vs) r_at more lies values =
          let kind = kind_read p i.origin in
          let there = and_parts (is_in r v) (lies_in rest vs) lies in
          let parts = and_parts (is_value kind v) (are_values (columns_from p t (k + 1) is) vs) values in
          let lits = column_literals t k i.values in
          let here = listed_allowed kind lits i.values (λ l l_at. among_right l (flat_map (rule_literals k) t.rules) (option_map_or literals i.values []) l_at) v parts.0 r r_at there.0 in
          and_from (is_allowed (column_of p t k i) v) (is_allowed_tuple (columns_from p t (k + 1) is) vs)
          (and_from (is_value kind v) (option_map_or (λ cell. holds cell v) i.values true) parts.0 here) (more vs parts.1 there.1)

-- a test that no number passes filters all of them out
none_kept : (f : ℕ → Bool) (a n : ℕ) → ((k : ℕ) → a ≤ k → k < a + n → f k ≡ false) → filter f (range_with_len a n) ≡ []
none_kept f a zero none = refl
none_kept f a (suc n) none =
    ap (λ b. cond b (a ∷ filter f (range_with_len (a + 1) n)) (filter f (range_with_len (a + 1) n))) (none a (omega arith) (omega arith))
    ∙ none_kept f (a + 1) n (λ k low high. none k (omega (arith, low)) (omega (arith, high)))

none_at : {X : Type 0} (q : X → Bool) (xs : List X) (x : X) → list_any q xs ≡ false → Among x xs → q x ≡ false
none_at q xs x none at = false_from_ne_true (q x) (λ yes. both_ways (list_any q xs) none (any_at q xs x at yes))

-- no rule matches what is read if and only if no rule fits it
none_match : (given : List Slot) (earlier : List (List Answer)) (t : Table) (tuple : List Value) → ReadsTuple given earlier t tuple → list_any (λ r. fits r.cells tuple) t.rules ≡ false
    → matching given earlier t ≡ []
none_match given earlier t tuple reads none =
    none_kept (rule_matches given earlier t) 0 (length t.rules)
    (λ k low high.
    let below : k < length t.rules = omega (arith, high) in
    let rule = at_place t.rules k below in
    matches_alike given earlier t tuple reads k below ∙ ap (λ found. fits (option_map_or (λ r. r.cells) found []) tuple) rule.1 ∙ none_at (λ r. fits r.cells tuple) t.rules rule.0 none rule.2)

none_fit : (given : List Slot) (earlier : List (List Answer)) (t : Table) (tuple : List Value) → ReadsTuple given earlier t tuple → matching given earlier t ≡ []
    → list_any (λ r. fits r.cells tuple) t.rules ≡ false
none_fit given earlier t tuple reads none =
    false_from_ne_true (list_any (λ r. fits r.cells tuple) t.rules)
    (λ some.
    let found = any_from (λ r. fits r.cells tuple) t.rules some in
    let place = place_of t.rules found.0 found.1 in
    let fit : fits (rule_cells t place.0) tuple ≡ true = ap (λ x. fits (option_map_or (λ r. r.cells) x []) tuple) place.2 ∙ found.2 in
    let there : Contains [] place.0 = subst (λ rules. Contains rules place.0) none ((fits_are_matches given earlier t tuple reads place.0 place.1).0 fit) in
    absurd (omega (arith, there.1)))

pub gaps_match_nothing : GapsMatchNothing
gaps_match_nothing p given earlier t tuple reads values =
    let inside = allowed_are_inside p given earlier t tuple reads values in (
      λ found.
          let cell = any_from (λ c. lies_in c tuple) (gaps p t) found in
          let at = among_unfilter (λ c. not (list_any (λ r. covers r.cells c) t.rules)) cell.0 (cells (table_regions p t)) cell.1 in
          let allowed = cell_allowed p t 0 t.inputs cell.0 tuple at values cell.2 in
          (inside.0 allowed, none_match given earlier t tuple reads ((tells_gaps p t tuple allowed).1 found).unmatched),
      λ nothing.
          let allowed = inside.1 nothing.0 in
          (tells_gaps p t tuple allowed).0 (record { allowed = allowed; unmatched = none_fit given earlier t tuple reads nothing.1 }),
    )

-- allowed values are of their columns' kinds
allowed_values : (cs : List Column) (tuple : List Value) → is_allowed_tuple cs tuple ≡ true → are_values cs tuple ≡ true
allowed_values [] tuple e = refl
allowed_values (c ∷ cs) [] e = refl
allowed_values (c ∷ cs) (v ∷ vs) e =
    let parts = and_parts (is_allowed c v) (is_allowed_tuple cs vs) e in
    let here = and_parts (is_value c.kind v) (option_map_or (λ cell. holds cell v) c.values true) parts.0 in
    and_from (is_value c.kind v) (are_values cs vs) here.0 (allowed_values cs vs parts.1)

pub overlaps_match_together : OverlapsMatchTogether
overlaps_match_together p t first second low less high =
    let reported = reports_overlaps p t first second low less high in
    let one_below : first - 1 < length t.rules = omega (arith, low, less, high) in
    let other_below : second - 1 < length t.rules = omega (arith, low, less, high) in
    record {
      listed = λ given earlier tuple reads values both.
          reported.0 (record {
            tuple = tuple;
            allowed = (allowed_are_inside p given earlier t tuple reads values).1 both.inside;
            first = (fits_are_matches given earlier t tuple reads (first - 1) one_below).1 both.one;
            second = (fits_are_matches given earlier t tuple reads (second - 1) other_below).1 both.other;
          });
      shared = λ found.
          let o = reported.1 found in (
            o.tuple,
            o.allowed,
            λ given earlier reads. record {
              inside = (allowed_are_inside p given earlier t o.tuple reads (allowed_values (columns p t) o.tuple o.allowed)).0 o.allowed;
              one = (fits_are_matches given earlier t o.tuple reads (first - 1) one_below).0 o.first;
              other = (fits_are_matches given earlier t o.tuple reads (second - 1) other_below).0 o.second;
            },
          );
    }
