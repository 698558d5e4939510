-- The columns of a table. The literals of a rule's cell are literals of its column.
use Rattle.std.proofs.Common.{◌≡◌, ℕ, zero, suc, ◌+◌, ◌<◌, inl, inr, Bool, true, false, cond, List, [], ◌∷◌, length, get_or, filter, Some, Contains, refl, ap, sym, ◌∙◌, subst, arith}
use Rattle.std.specs.List.{flat_map, slice_get}
use Rattle.std.specs.Option.{option_map_or}
use Rattle.feel_tests.specs.Holds.{holds}
use Rattle.feel_tests.specs.declared.cell.Cell.{Cell}
use Rattle.feel_tests.specs.declared.value.Value.{Value}
use Rattle.tables.specs.declared.table.Input.{Input}
use Rattle.tables.specs.declared.table.Rule.{Rule}
use Rattle.tables.specs.declared.table.Table.{Table}
use Rattle.feel_tests.specs.declared.kind.Kind.{Kind}
use Rattle.feel_tests.specs.declared.kind.Kind.TheVariants as kinds
use Rattle.feel_tests.specs.declared.value.Value.TheVariants.{Number, Text, Flag, Day}
use Rattle.tables.specs.Plan.{PlanParts, has_kind}
use Rattle.regions.specs.declared.region.Region.{Region}
use Rattle.regions.specs.Values.{is_value, kind_read}
use Rattle.regions.specs.Regions.{Column, columns_from, column_of, column_literals, rule_literals, literals, regions, stretches, is_listed, is_in}
use Rattle.cutplan.specs.Laws.{CellsHoldAlike}
use Rattle.cutplan.proofs.Alike.{Among, each_from, Alike, holds_alike, among_left, among_right}
use Rattle.cutplan.proofs.Regionwise.{region_alike}

pub among_contained : {X : Type 0} (xs : List X) (x : X) → Contains xs x → Among x xs
among_contained xs x c = at xs x c.0 c.1 c.2 where
  at : {X : Type 0} (xs : List X) (x : X) (k : ℕ) → k < length xs → get_or xs k x ≡ x → Among x xs
  at [] x k below e = absurd (omega (arith, below))
  at (y ∷ ys) x zero below e = inl e
  at (y ∷ ys) x (suc k) below e = inr (at ys x k (omega (arith, below)) e)

pub among_unfilter : {X : Type 0} (p : X → Bool) (x : X) (xs : List X) → Among x (filter p xs) → Among x xs
among_unfilter p x [] at = absurd at
among_unfilter p x (y ∷ ys) at =
    elim (p y) as (λ b. Among x (cond b (y ∷ filter p ys) (filter p ys)) → Among x (y ∷ ys)) [
      | true ↦ λ at. elim at [ inl e ↦ inl e | inr more ↦ inr (among_unfilter p x ys more) ]
      | false ↦ λ at. inr (among_unfilter p x ys at)
    ] at

-- the literals of a rule's cell are among those of its column
pub literal_of_rule : (rules : List Rule) (place : ℕ) (rule : Rule) (cell : Cell) (l : Value) → Among rule rules → slice_get rule.cells place ≡ Some cell → Among l (literals cell) → Among l (flat_map (rule_literals place) rules)
literal_of_rule [] place rule cell l at located inside = absurd at
literal_of_rule (r ∷ rules) place rule cell l (inl e) located inside =
    among_left l (rule_literals place r) (flat_map (rule_literals place) rules)
    (subst (λ ls. Among l ls) (sym (ap (rule_literals place) e ∙ ap (λ found. option_map_or literals found []) located)) inside)
literal_of_rule (r ∷ rules) place rule cell l (inr at) located inside =
    among_right l (rule_literals place r) (flat_map (rule_literals place) rules) (literal_of_rule rules place rule cell l at located inside)

-- each column is that of an input
pub column_at : (p : PlanParts) (t : Table) (first : ℕ) (inputs : List Input) (place : ℕ) (column : Column) → slice_get (columns_from p t first inputs) place ≡ Some column → (input : Input) × (column_of p t (first + place) input ≡ column)
column_at p t first [] place column e = absurd cc
column_at p t first (i ∷ is) zero column e =
    let same : column_of p t first i ≡ column = cc in
    let here : first + 0 ≡ first = omega arith in
    (i, ap (λ k. column_of p t k i) here ∙ same)
column_at p t first (i ∷ is) (suc place) column e =
    let rest = column_at p t (first + 1) is place column e in
    let here : first + suc place ≡ (first + 1) + place = omega arith in
    (rest.0, ap (λ k. column_of p t k rest.0) here ∙ rest.1)

-- a cell holds alike for all values of a region if its literals are literals of the column
pub cell_alike : (p : PlanParts) (t : Table) (place : ℕ) (input : Input) (r : Region) → Among r (stretches (kind_read p input.origin) (column_of p t place input).cuts) → (cell : Cell)
    → ((l : Value) → Among l (literals cell) → Among l (column_literals t place input.values)) → (v w : Value) → has_kind (kind_read p input.origin) v ≡ true → has_kind (kind_read p input.origin) w ≡ true
    → is_in r v ≡ true → is_in r w ≡ true → holds cell v ≡ holds cell w
cell_alike p t place input r at cell inside v w value_v value_w in_v in_w =
    holds_alike v w cell (each_from (Alike v w) (literals cell) (λ l l_at. region_alike (kind_read p input.origin) (column_literals t place input.values) r at v w value_v value_w in_v in_w l (inside l l_at)))

-- a value in the range of a kind is of the kind
pub value_kind : (kind : Kind) (v : Value) → is_value kind v ≡ true → has_kind kind v ≡ true
value_kind kinds.Number (Number a) e = refl
value_kind kinds.Number (Text a) e = e
value_kind kinds.Number (Flag a) e = e
value_kind kinds.Number (Day a) e = e
value_kind kinds.Text (Number a) e = e
value_kind kinds.Text (Text a) e = refl
value_kind kinds.Text (Flag a) e = e
value_kind kinds.Text (Day a) e = e
value_kind kinds.Flag (Number a) e = e
value_kind kinds.Flag (Text a) e = e
value_kind kinds.Flag (Flag a) e = refl
value_kind kinds.Flag (Day a) e = e
value_kind kinds.Day (Number a) e = e
value_kind kinds.Day (Text a) e = e
value_kind kinds.Day (Flag a) e = e
value_kind kinds.Day (Day a) e = refl

pub cells_hold_alike : CellsHoldAlike
cells_hold_alike p t place column found rule cell rule_in located r v w region value_v value_w in_v in_w =
    let of_input = column_at p t 0 t.inputs place column found in
    let zero_place : 0 + place ≡ place = omega arith in
    let same : column ≡ column_of p t place of_input.0 = sym of_input.1 ∙ ap (λ k. column_of p t k of_input.0) zero_place in
    let input = of_input.0 in
    let there = subst (λ c. Among r (regions c)) same (among_contained (regions column) r region) in
    cell_alike p t place input r (among_unfilter (is_listed input.values) r (stretches (kind_read p input.origin) (column_of p t place input).cuts) there) cell
    (λ l l_at. among_left l (flat_map (rule_literals place) t.rules) (option_map_or literals input.values []) (literal_of_rule t.rules place rule cell l (among_contained t.rules rule rule_in) located l_at))
    v w (value_kind (kind_read p input.origin) v (subst (λ c. is_value c.kind v ≡ true) same value_v)) (value_kind (kind_read p input.origin) w (subst (λ c. is_value c.kind w ≡ true) same value_w)) in_v in_w
