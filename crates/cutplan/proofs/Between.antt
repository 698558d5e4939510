-- Between two adjacent literals of its own, a cell holds for all values or for none.
use Rattle.std.proofs.Common.{◌≡◌, ℕ, zero, suc, ◌-◌, ◌≤◌, ◌<◌, ◌&&◌, ◌||◌, ◌==◌, inl, inr, Bool, true, false, List, [], ◌∷◌, length, filter, Option, Some, None, refl, ap, sym, ◌∙◌, subst, arith}
use Rattle.std.specs.Prelude.{nat_le}
use Rattle.std.specs.List.{slice_get}
use Rattle.std.specs.Option.{option_map_or}
use Rattle.std.proofs.lemmas.Bool.{both_ways, and_parts, ne_eqb, leb-true, cases_lt}
use Rattle.std.proofs.lemmas.Option.{none-some, same_Some}
use Rattle.feel_tests.specs.declared.cell.Cell.{Cell}
use Rattle.feel_tests.specs.declared.kind.Kind.{Kind}
use Rattle.feel_tests.specs.declared.kind.Kind.TheVariants as kinds
use Rattle.feel_tests.specs.declared.value.Value.{Value}
use Rattle.feel_tests.specs.declared.value.Value.TheVariants.{Number, Text, Flag, Day}
use Rattle.tables.specs.declared.table.Rule.{Rule}
use Rattle.tables.specs.Plan.{has_kind}
use Rattle.regions.specs.Values.{is_before, sort_values}
use Rattle.regions.specs.Regions.{literals}
use Rattle.cutplan.specs.CheckSteps.{fits_at, is_located_at, own_cuts, cell_holds, IsAsked}
use Rattle.cutplan.proofs.Alike.{Among, Apart, Alike, each_from, alike_apart, holds_alike}
use Rattle.cutplan.proofs.CutLists.{rising_only}
use Rattle.cutplan.proofs.CutOrder.{Lined, Of, OfKind, Rises, asked_of, by_kind, chain_of, cuts_of_kind, rises_at}
use Rattle.cutplan.proofs.Regionwise.{number_is, day_is, flag_is, text_is, cut_of, number_text, number_flag, number_day, day_text, day_flag, day_number, flag_number, flag_text, flag_day, text_number, text_flag, text_day}
use Rattle.cutplan.proofs.Holding.{among_passes}
use Rattle.cutplan.proofs.CutSearch.{item_at}

-- values of a kind on one side of a literal of the kind
after_alike : {K : Type 0} {mk : K → Value} → Lined mk → (l v w : Value) → Of mk l → Of mk v → Of mk w → is_before l v ≡ true → is_before l w ≡ true → Alike v w l
after_alike {K} {mk} line l v w l_is v_is w_is h k =
    subst (λ x. Alike x w l) (sym v_is.1)
    (subst (λ y. Alike (mk v_is.0) y l) (sym w_is.1)
    (subst (λ z. Alike (mk v_is.0) (mk w_is.0) z) (sym l_is.1)
    (line.above v_is.0 w_is.0 l_is.0 (sym (asked_of mk is_before l v l_is v_is) ∙ h) (sym (asked_of mk is_before l w l_is w_is) ∙ k))))

front_alike : {K : Type 0} {mk : K → Value} → Lined mk → (l v w : Value) → Of mk l → Of mk v → Of mk w → is_before v l ≡ true → is_before w l ≡ true → Alike v w l
front_alike {K} {mk} line l v w l_is v_is w_is h k =
    subst (λ x. Alike x w l) (sym v_is.1)
    (subst (λ y. Alike (mk v_is.0) y l) (sym w_is.1)
    (subst (λ z. Alike (mk v_is.0) (mk w_is.0) z) (sym l_is.1)
    (line.below v_is.0 w_is.0 l_is.0 (sym (asked_of mk is_before v l v_is l_is) ∙ h) (sym (asked_of mk is_before w l w_is l_is) ∙ k))))

-- no test of a literal of another kind holds for the value
kinds_apart : (kind : Kind) (v l : Value) → has_kind kind v ≡ true → has_kind kind l ≡ false → Apart v l
kinds_apart kinds.Number v (Number c) is other = absurd (both_ways true other refl)
kinds_apart kinds.Number v (Text t) is other = let of = number_is v is in subst (λ x. Apart x (Text t)) (sym of.1) (number_text of.0 t)
kinds_apart kinds.Number v (Flag f) is other = let of = number_is v is in subst (λ x. Apart x (Flag f)) (sym of.1) (number_flag of.0 f)
kinds_apart kinds.Number v (Day d) is other = let of = number_is v is in subst (λ x. Apart x (Day d)) (sym of.1) (number_day of.0 d)
kinds_apart kinds.Text v (Number c) is other = let of = text_is v is in subst (λ x. Apart x (Number c)) (sym of.1) (text_number of.0 c)
kinds_apart kinds.Text v (Text t) is other = absurd (both_ways true other refl)
kinds_apart kinds.Text v (Flag f) is other = let of = text_is v is in subst (λ x. Apart x (Flag f)) (sym of.1) (text_flag of.0 f)
kinds_apart kinds.Text v (Day d) is other = let of = text_is v is in subst (λ x. Apart x (Day d)) (sym of.1) (text_day of.0 d)
kinds_apart kinds.Flag v (Number c) is other = let of = flag_is v is in subst (λ x. Apart x (Number c)) (sym of.1) (flag_number of.0 c)
kinds_apart kinds.Flag v (Text t) is other = let of = flag_is v is in subst (λ x. Apart x (Text t)) (sym of.1) (flag_text of.0 t)
kinds_apart kinds.Flag v (Flag f) is other = absurd (both_ways true other refl)
kinds_apart kinds.Flag v (Day d) is other = let of = flag_is v is in subst (λ x. Apart x (Day d)) (sym of.1) (flag_day of.0 d)
kinds_apart kinds.Day v (Number c) is other = let of = day_is v is in subst (λ x. Apart x (Number c)) (sym of.1) (day_number of.0 c)
kinds_apart kinds.Day v (Text t) is other = let of = day_is v is in subst (λ x. Apart x (Text t)) (sym of.1) (day_text of.0 t)
kinds_apart kinds.Day v (Flag f) is other = let of = day_is v is in subst (λ x. Apart x (Flag f)) (sym of.1) (day_flag of.0 f)
kinds_apart kinds.Day v (Day d) is other = absurd (both_ways true other refl)

among_index : {X : Type 0} (xs : List X) (x : X) → Among x xs → (k : ℕ) × (slice_get xs k ≡ Some x)
among_index [] x at = absurd at
among_index (y ∷ ys) x (inl e) = (0, ap Some e)
among_index (y ∷ ys) x (inr at) = let more = among_index ys x at in (suc more.0, more.1)

pub index_within : {X : Type 0} (xs : List X) (k : ℕ) (x : X) → slice_get xs k ≡ Some x → suc k ≤ length xs
index_within [] k x at = absurd (none-some x at)
index_within (y ∷ ys) zero x at = omega arith
index_within (y ∷ ys) (suc k) x at = let more = index_within ys k x at in omega (arith, more)

-- the cut before the index is before the value
cut_in_front : (cs : List Value) (place j : ℕ) (c v : Value) → suc j ≡ place → slice_get cs j ≡ Some c → (place == 0 || option_map_or (λ x. is_before x v) (slice_get cs (place - 1)) true) ≡ true → is_before c v ≡ true
cut_in_front cs place j c v e at side =
    let there : place - 1 ≡ j = omega (arith, e) in
    ap (λ found. option_map_or (λ x. is_before x v) found true) (sym at) ∙ ap (λ n. option_map_or (λ x. is_before x v) (slice_get cs n) true) (sym there)
    ∙ sym (ap (λ b. b || option_map_or (λ x. is_before x v) (slice_get cs (place - 1)) true) (ne_eqb place 0 (λ none. omega (arith, e, none)))) ∙ side

-- the cuts are of one kind, and they are increasing
record Ordered {K : Type 0} (mk : K → Value) (cs : List Value) : Type 0 where
  line : Lined mk
  made : (c : Value) → Among c cs → Of mk c
  rise : Rises cs

among_slot : {X : Type 0} (xs : List X) (n : ℕ) (x : X) → slice_get xs n ≡ Some x → Among x xs
among_slot [] n x e = absurd (none-some x e)
among_slot (y ∷ ys) zero x e = inl (same_Some y x e)
among_slot (y ∷ ys) (suc n) x e = inr (among_slot ys n x e)

-- every cut before the index of a value is before the value
earlier_cut : {K : Type 0} {mk : K → Value} (cs : List Value) (place j : ℕ) (l v : Value) → Ordered mk cs → Of mk v → place ≤ length cs → fits_at cs place v ≡ true → slice_get cs j ≡ Some l → j < place → is_before l v ≡ true
earlier_cut {K} {mk} cs zero j l v o is within fit at less = absurd (omega (arith, less))
earlier_cut {K} {mk} cs (suc n) j l v o is within fit at less =
    let sides = and_parts (option_map_or (λ c. is_before v c) (slice_get cs (suc n)) true) (suc n == 0 || option_map_or (λ c. is_before c v) (slice_get cs (suc n - 1)) true) fit in
    let last = item_at cs n within in
    let before = cut_in_front cs (suc n) n last.0 v refl last.1 sides.1 in
    elim (cases_lt j n) [
      | inl lower ↦
          chain_of o.line l last.0 v (o.made l (among_slot cs j l at)) (o.made last.0 (among_slot cs n last.0 last.1)) is (rises_at cs j n l last.0 o.rise lower at last.1) before
      | inr most ↦ (let here : j ≡ n = omega (arith, less, most) in subst (λ x. is_before x v ≡ true) (same_Some last.0 l (sym last.1 ∙ ap (slice_get cs) (sym here) ∙ at)) before)
    ]

-- the value is before every cut from its index on
later_cut : {K : Type 0} {mk : K → Value} (cs : List Value) (place j : ℕ) (l v : Value) → Ordered mk cs → Of mk v → fits_at cs place v ≡ true → slice_get cs j ≡ Some l → place ≤ j → is_before v l ≡ true
later_cut {K} {mk} cs place j l v o is fit at most =
    let sides = and_parts (option_map_or (λ c. is_before v c) (slice_get cs place) true) (place == 0 || option_map_or (λ c. is_before c v) (slice_get cs (place - 1)) true) fit in
    let long = index_within cs j l at in
    let first = item_at cs place (omega (arith, long, most)) in
    let before : is_before v first.0 ≡ true = ap (λ found. option_map_or (λ c. is_before v c) found true) (sym first.1) ∙ sides.0 in
    elim (cases_lt place j) [
      | inl lower ↦
          chain_of o.line v first.0 l is (o.made first.0 (among_slot cs place first.0 first.1)) (o.made l (among_slot cs j l at)) before (rises_at cs place j first.0 l o.rise lower first.1 at)
      | inr least ↦ (let here : place ≡ j = omega (arith, least, most) in subst (λ x. is_before v x ≡ true) (same_Some first.0 l (sym first.1 ∙ ap (slice_get cs) here ∙ at)) before)
    ]

-- two values at the same index compare in the same way with each cut
cut_alike : {K : Type 0} {mk : K → Value} (cs : List Value) (place : ℕ) (v w : Value) → Ordered mk cs → Of mk v → Of mk w → place ≤ length cs → fits_at cs place v ≡ true → fits_at cs place w ≡ true → (l : Value) → Among l cs → Alike v w l
cut_alike cs place v w o v_is w_is within fit_v fit_w l at =
    let index = among_index cs l at in
    elim (cases_lt index.0 place) [
      | inl less ↦ after_alike o.line l v w (o.made l at) v_is w_is (earlier_cut cs place index.0 l v o v_is within fit_v index.1 less) (earlier_cut cs place index.0 l w o w_is within fit_w index.1 less)
      | inr most ↦ front_alike o.line l v w (o.made l at) v_is w_is (later_cut cs place index.0 l v o v_is fit_v index.1 most) (later_cut cs place index.0 l w o w_is fit_w index.1 most)
    ]

-- the cuts of a kind among literals
abbrev cuts_in : Kind → List Value → List Value
cuts_in kind lits = sort_values (filter (has_kind kind) lits)

ordered_cuts : {K : Type 0} {mk : K → Value} (kind : Kind) (lits : List Value) → Lined mk → OfKind mk kind → Rises (cuts_in kind lits) → Ordered mk (cuts_in kind lits)
ordered_cuts kind lits line is rise = record {
  line = line;
  made = λ c at. is c (among_passes (has_kind kind) c lits (rising_only (filter (has_kind kind) lits) c at));
  rise = rise;
}

kind_cuts_alike : (kind : Kind) (lits : List Value) (place : ℕ) (v w : Value) → has_kind kind v ≡ true → has_kind kind w ≡ true → place ≤ length (cuts_in kind lits)
    → fits_at (cuts_in kind lits) place v ≡ true → fits_at (cuts_in kind lits) place w ≡ true → (l : Value) → Among l (cuts_in kind lits) → Alike v w l
kind_cuts_alike kind lits place v w =
    by_kind (λ k. has_kind k v ≡ true → has_kind k w ≡ true → place ≤ length (cuts_in k lits) → fits_at (cuts_in k lits) place v ≡ true → fits_at (cuts_in k lits) place w ≡ true → (l : Value) → Among l (cuts_in k lits) → Alike v w l)
    (λ K mk line k is v_is w_is. cut_alike (cuts_in k lits) place v w (ordered_cuts k lits line is (cuts_of_kind k lits)) (is v v_is) (is w w_is)) kind

-- the three conditions for a value to be at an index
record AtPlace (kind : Kind) (cs : List Value) (place : ℕ) (v : Value) : Type 0 where
  is : has_kind kind v ≡ true
  within : place ≤ length cs
  fit : fits_at cs place v ≡ true

at_place : (kind : Kind) (cs : List Value) (place : ℕ) (v : Value) → is_located_at kind cs place v ≡ true → AtPlace kind cs place v
at_place kind cs place v e =
    let all = and_parts (has_kind kind v && nat_le place (length cs)) (fits_at cs place v) e in
    let front = and_parts (has_kind kind v) (nat_le place (length cs)) all.0 in
    record { is = front.0; within = leb-true place (length cs) front.1; fit = all.1 }

-- two values at the same index among the literals of a cell compare in the same way with each of
-- them
literal_alike : (kind : Kind) (lits : List Value) (place : ℕ) (v w : Value) → is_located_at kind (cuts_in kind lits) place v ≡ true → is_located_at kind (cuts_in kind lits) place w ≡ true → (l : Value) → Among l lits → Alike v w l
literal_alike kind lits place v w at_v at_w l at =
    let one = at_place kind (cuts_in kind lits) place v at_v in
    let other = at_place kind (cuts_in kind lits) place w at_w in
    elim (has_kind kind l) as (λ b. has_kind kind l ≡ b → Alike v w l) [
      | true ↦ λ e. kind_cuts_alike kind lits place v w one.is other.is one.within one.fit other.fit l (cut_of kind lits l at e)
      | false ↦ λ e. alike_apart (kinds_apart kind v l one.is e) (kinds_apart kind w l other.is e)
    ] refl

-- so the cell holds for both values or for neither
between_alike : (kind : Kind) (rule : Rule) (column place : ℕ) (v w : Value) → is_located_at kind (own_cuts kind column rule) place v ≡ true → is_located_at kind (own_cuts kind column rule) place w ≡ true
    → cell_holds (slice_get rule.cells column) v ≡ cell_holds (slice_get rule.cells column) w
between_alike kind rule column place v w at_v at_w = by_cell (slice_get rule.cells column) at_v at_w where
  by_cell : (cell : Option Cell) → is_located_at kind (cuts_in kind (option_map_or literals cell [])) place v ≡ true → is_located_at kind (cuts_in kind (option_map_or literals cell [])) place w ≡ true → cell_holds cell v ≡ cell_holds cell w
  by_cell None at_v at_w = refl
  by_cell (Some cell) at_v at_w = holds_alike v w cell (each_from (Alike v w) (literals cell) (literal_alike kind (literals cell) place v w at_v at_w))

-- a new probe has no answer
pub none_asked : (rule : Rule) (column : ℕ) (kind : Kind) (cuts : List Value) (place : ℕ) → cuts ≡ own_cuts kind column rule → IsAsked rule column kind cuts place None
none_asked rule column kind cuts place own = record { own = own; known = λ found none. absurd (none-some found none) }

-- the answer for a value at an index is correct for all values there
pub asked_at : (rule : Rule) (column : ℕ) (kind : Kind) (cuts : List Value) (place : ℕ) (v : Value) (answer : Bool) → cuts ≡ own_cuts kind column rule → is_located_at kind cuts place v ≡ true → answer ≡ cell_holds (slice_get rule.cells column) v
    → IsAsked rule column kind cuts place (Some answer)
asked_at rule column kind cuts place v answer own at is = record {
  own = own;
  known = λ found same w at_w.
      between_alike kind rule column place w v (subst (λ cs. is_located_at kind cs place w ≡ true) own at_w) (subst (λ cs. is_located_at kind cs place v ≡ true) own at)
      ∙ sym is ∙ same_Some answer found same;
}
