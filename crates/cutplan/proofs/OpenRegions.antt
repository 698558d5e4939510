-- A region with a value of the column's kind is listed as such, and cells are evaluated in it at a
-- correct value.
use Rattle.std.proofs.Common.{◌≡◌, ℕ, ℤ, pos, neg_ℤ, ◌≤◌, ◌<◌, ◌≤ℤ◌, ◌<ℤ◌, ◌+ℤ◌, inl, inr, true, false, cond, List, [], ◌∷◌, map, filter, Option, Some, None, refl, ap, sym, ◌∙◌, subst, arith}
use Rattle.std.specs.Prelude.{int_le}
use Rattle.std.specs.Int.{int_max}
use Rattle.std.specs.Int.RustNames.{unsigned_abs}
use Rattle.feel_tests.specs.Value.{kind_of}
use Rattle.tables.specs.Plan.{has_kind}
use Rattle.std.specs.List.{list_any}
use Rattle.std.specs.Option.{option_map_or}
use Rattle.std.proofs.lemmas.Int.{ints, by_lt_z}
use Rattle.std.proofs.lemmas.Bool.{and_parts, and_from, and_right, not-true, leb-true, le-leb, lt-leb, cases_Bool}
use Rattle.fixpoint.specs.Number.{greatest_units}
use Rattle.feel_tests.specs.DayNumber.{first_day, last_day}
use Rattle.feel_tests.specs.Holds.{is_equal, is_less, holds}
use Rattle.feel_tests.specs.declared.cell.Cell.{Cell}
use Rattle.feel_tests.specs.declared.kind.Kind.{Kind}
use Rattle.feel_tests.specs.declared.kind.Kind.TheVariants as kinds
use Rattle.feel_tests.specs.declared.value.Value.{Value}
use Rattle.feel_tests.specs.declared.value.Value.TheVariants.{Number, Text, Flag, Day}
use Rattle.regions.specs.declared.region.Region.{Region}
use Rattle.regions.specs.declared.region.Region.TheVariants.{Below, At, Between, Above, Other, Every}
use Rattle.regions.specs.Values.{is_value, sort_values}
use Rattle.regions.specs.Regions.{stretches, regions_of_order, regions_of_names, from_cut, is_in, literals, has_value, holds_in, holds_of, least_like, next}
use Rattle.regions.proofs.Integers.{lt_true, lt_from, lt_false, le_true, le_so, le_not}
use Rattle.cutplan.proofs.Alike.{Each, Among, each_at, each_from, Alike, holds_alike, Apart, holds_apart}
use Rattle.cutplan.proofs.Ordered.{Ranked}
use Rattle.cutplan.proofs.CutLists.{RisingCuts, Made, equal_same}
use Rattle.cutplan.proofs.Regionwise.{numbers, days, number_is, day_is, text_is, number_cuts, day_cuts, cut_of, region_alike, unnamed_apart, among_at, among_split, number_text, number_flag, number_day, day_number, day_text, day_flag}

-- the shape of the regions of numbers or days
abbrev pub Shape : (ℤ → Value) → List ℤ → Region → Type 0
Shape mk zs (Below u) = (c : ℤ) × (u ≡ mk c) × Among c zs
Shape mk zs (At u) = (c : ℤ) × (u ≡ mk c) × Among c zs
Shape mk zs (Between u w) = (c : ℤ) × (d : ℤ) × (u ≡ mk c) × (w ≡ mk d) × Among c zs
Shape mk zs (Above u) = (c : ℤ) × (u ≡ mk c) × Among c zs
Shape mk zs (Other names) = ⊥
Shape mk zs Every = zs ≡ []

from_shapes : (mk : ℤ → Value) (all : List ℤ) (low : ℤ) (more : List ℤ) → Among low all → ((c : ℤ) → Among c more → Among c all) → Each (Shape mk all) (from_cut (mk low) (map mk more))
from_shapes mk all low [] at inside = ((low, refl, at), ((low, refl, at), tt))
from_shapes mk all low (high ∷ more) at inside =
    ((low, refl, at), ((low, high, refl, refl, at), from_shapes mk all high more (inside high (inl refl)) (λ c c_at. inside c (inr c_at))))

pub shapes : (mk : ℤ → Value) (zs : List ℤ) → Each (Shape mk zs) (regions_of_order (map mk zs))
shapes mk [] = (refl, tt)
shapes mk (low ∷ more) = ((low, refl, inl refl), from_shapes mk (low ∷ more) low more (inl refl) (λ c c_at. inr c_at))

-- the region contains a value, and cells hold in it as they do for this value
pub record IsLocated (lits : List Value) (r : Region) (v : Value) : Type 0 where
  pub has : has_value r ≡ true
  pub asked : (cell : Cell) → ((l : Value) → Among l (literals cell) → Among l lits) → holds_in cell r ≡ holds cell v

-- the numbers or the days: consecutive values of a range
pub record Spanned (kind : Kind) (mk : ℤ → Value) : Type 0 where
  pub least : ℤ
  pub greatest : ℤ
  pub ranked : Ranked mk
  pub made : (v : Value) → has_kind kind v ≡ true → Made mk v
  pub has : (z : ℤ) → has_kind kind (mk z) ≡ true
  pub bounds : (z : ℤ) → is_value kind (mk z) ≡ true → (least ≤ℤ z) × (z ≤ℤ greatest)
  pub first : (z : ℤ) → least_like (mk z) ≡ Some (mk least)
  pub following : (z : ℤ) → int_max least (z +ℤ pos 1) ≤ℤ greatest → next (mk z) ≡ Some (mk (int_max least (z +ℤ pos 1)))
  pub stretch : (cuts : List Value) → stretches kind cuts ≡ regions_of_order cuts
  pub cuts : (lits : List Value) → RisingCuts mk (sort_values (filter (has_kind kind) lits))
  pub apart : (z : ℤ) (l : Value) → has_kind kind l ≡ false → Apart (mk z) l
  pub some : least ≤ℤ greatest
  pub value : (z : ℤ) → least ≤ℤ z → z ≤ℤ greatest → is_value kind (mk z) ≡ true
  pub of_kind : (z : ℤ) → kind_of (mk z) ≡ kind
  pub beyond : (z : ℤ) → greatest <ℤ int_max least (z +ℤ pos 1) → next (mk z) ≡ None

-- the greater of two numbers
pub max_low : (a b : ℤ) → a ≤ℤ int_max a b
max_low a b = by_lt_z b a (λ less. let e : int_max a b ≡ a = ap (λ x. cond x a b) (lt_true b a less) in omega (arith, ints, e)) (λ most. let e : int_max a b ≡ b = ap (λ x. cond x a b) (lt_false b a most) in omega (arith, ints, e, most))

pub max_high : (a b : ℤ) → b ≤ℤ int_max a b
max_high a b = by_lt_z b a (λ less. let e : int_max a b ≡ a = ap (λ x. cond x a b) (lt_true b a less) in omega (arith, ints, e, less)) (λ most. let e : int_max a b ≡ b = ap (λ x. cond x a b) (lt_false b a most) in omega (arith, ints, e))

max_within : (a b c : ℤ) → a ≤ℤ c → b ≤ℤ c → int_max a b ≤ℤ c
max_within a b c h k = by_lt_z b a (λ less. let e : int_max a b ≡ a = ap (λ x. cond x a b) (lt_true b a less) in omega (arith, ints, e, h)) (λ most. let e : int_max a b ≡ b = ap (λ x. cond x a b) (lt_false b a most) in omega (arith, ints, e, k))

-- the cells hold in a region as for each of its values
asked_at : (kind : Kind) (lits : List Value) (r : Region) → Among r (stretches kind (sort_values (filter (has_kind kind) lits))) → (v w : Value) → has_kind kind v ≡ true → has_kind kind w ≡ true → is_in r v ≡ true → is_in r w ≡ true
    → (found : Option Value) → found ≡ Some w → (cell : Cell) → ((l : Value) → Among l (literals cell) → Among l lits) → holds_of cell found ≡ holds cell v
asked_at kind lits r at v w kind_v kind_w in_v in_w found e cell inside =
    ap (holds_of cell) e ∙ holds_alike w v cell (each_from (Alike w v) (literals cell) (λ l l_at. region_alike kind lits r at w v kind_w kind_v in_w in_v l (inside l l_at)))

-- a region of a single value
at_located : (lits : List Value) (u v : Value) → is_equal v u ≡ true → is_value (kind_of v) v ≡ true → IsLocated lits (At u) v
at_located lits u v e value =
    let same = sym (equal_same v u e) in
    record { has = ap (λ x. is_value (kind_of x) x) same ∙ value; asked = λ cell inside. ap (holds cell) same }

pub kind_is : (kind : Kind) (v : Value) → is_value kind v ≡ true → is_value (kind_of v) v ≡ true
kind_is kinds.Number (Number a) e = e
kind_is kinds.Number (Text a) e = refl
kind_is kinds.Number (Flag a) e = refl
kind_is kinds.Number (Day a) e = absurd (cc)
kind_is kinds.Text (Number a) e = absurd (cc)
kind_is kinds.Text (Text a) e = refl
kind_is kinds.Text (Flag a) e = refl
kind_is kinds.Text (Day a) e = absurd (cc)
kind_is kinds.Flag (Number a) e = absurd (cc)
kind_is kinds.Flag (Text a) e = refl
kind_is kinds.Flag (Flag a) e = refl
kind_is kinds.Flag (Day a) e = absurd (cc)
kind_is kinds.Day (Number a) e = absurd (cc)
kind_is kinds.Day (Text a) e = refl
kind_is kinds.Day (Flag a) e = refl
kind_is kinds.Day (Day a) e = e

-- a number or a day in its region
span_located : {kind : Kind} {mk : ℤ → Value} → Spanned kind mk → (lits : List Value) (r : Region) → Among r (stretches kind (sort_values (filter (has_kind kind) lits))) → (a : ℤ) → is_value kind (mk a) ≡ true → is_in r (mk a) ≡ true
    → (zs : List ℤ) → sort_values (filter (has_kind kind) lits) ≡ map mk zs → Shape mk zs r → is_value (kind_of (mk a)) (mk a) ≡ true → IsLocated lits r (mk a)
span_located {kind} {mk} s lits (Below u) at a value in_a zs made shape self =
    let c = shape.0 in
    let e = shape.1 in
    let bounds = s.bounds a value in
    let less = lt_from a c (sym (s.ranked.less a c) ∙ ap (is_less (mk a)) (sym e) ∙ in_a) in
    let low : s.least <ℤ c = omega (arith, ints, bounds.0, less) in
    let in_least : is_less (mk s.least) u ≡ true = ap (is_less (mk s.least)) e ∙ s.ranked.less s.least c ∙ lt_true s.least c low in
    let found : least_like u ≡ Some (mk s.least) = ap least_like e ∙ s.first c in
    record {
      has = ap (λ o. option_map_or (λ v. is_less v u) o false) found ∙ in_least;
      asked = asked_at kind lits (Below u) at (mk a) (mk s.least) (s.has a) (s.has s.least) in_a in_least (least_like u) found;
    }
span_located {kind} {mk} s lits (At u) at a value in_a zs made shape self = at_located lits u (mk a) in_a self
span_located {kind} {mk} s lits (Between u w) at a value in_a zs made shape self =
    let c = shape.0 in
    let d = shape.1 in
    let e = shape.2 in
    let f = shape.3 in
    let bounds = s.bounds a value in
    let parts = and_parts (is_less u (mk a)) (is_less (mk a) w) in_a in
    let above = lt_from c a (sym (s.ranked.less c a) ∙ ap (λ x. is_less x (mk a)) (sym e) ∙ parts.0) in
    let below = lt_from a d (sym (s.ranked.less a d) ∙ ap (is_less (mk a)) (sym f) ∙ parts.1) in
    let m = int_max s.least (c +ℤ pos 1) in
    let within : m ≤ℤ a = max_within s.least (c +ℤ pos 1) a bounds.0 (omega (arith, ints, above)) in
    let most : m ≤ℤ s.greatest = omega (arith, ints, within, bounds.1) in
    let high = max_high s.least (c +ℤ pos 1) in
    let over : c <ℤ m = omega (arith, ints, high) in
    let under : m <ℤ d = omega (arith, ints, within, below) in
    let in_low : is_less u (mk m) ≡ true = ap (λ x. is_less x (mk m)) e ∙ s.ranked.less c m ∙ lt_true c m over in
    let in_high : is_less (mk m) w ≡ true = ap (is_less (mk m)) f ∙ s.ranked.less m d ∙ lt_true m d under in
    let found : next u ≡ Some (mk m) = ap next e ∙ s.following c most in
    record {
      has = ap (λ o. option_map_or (λ v. is_less v w) o false) found ∙ in_high;
      asked = asked_at kind lits (Between u w) at (mk a) (mk m) (s.has a) (s.has m) in_a (and_from (is_less u (mk m)) (is_less (mk m) w) in_low in_high) (next u) found;
    }
span_located {kind} {mk} s lits (Above u) at a value in_a zs made shape self =
    let c = shape.0 in
    let e = shape.1 in
    let bounds = s.bounds a value in
    let above = lt_from c a (sym (s.ranked.less c a) ∙ ap (λ x. is_less x (mk a)) (sym e) ∙ in_a) in
    let m = int_max s.least (c +ℤ pos 1) in
    let within : m ≤ℤ a = max_within s.least (c +ℤ pos 1) a bounds.0 (omega (arith, ints, above)) in
    let most : m ≤ℤ s.greatest = omega (arith, ints, within, bounds.1) in
    let high = max_high s.least (c +ℤ pos 1) in
    let over : c <ℤ m = omega (arith, ints, high) in
    let in_low : is_less u (mk m) ≡ true = ap (λ x. is_less x (mk m)) e ∙ s.ranked.less c m ∙ lt_true c m over in
    let found : next u ≡ Some (mk m) = ap next e ∙ s.following c most in
    record {
      has = ap (λ o. option_map_or (λ v. true) o false) found;
      asked = asked_at kind lits (Above u) at (mk a) (mk m) (s.has a) (s.has m) in_a in_low (next u) found;
    }
span_located s lits (Other names) at a value in_a zs made shape self = absurd shape
span_located {kind} {mk} s lits Every at a value in_a zs made shape self =
    let none : sort_values (filter (has_kind kind) lits) ≡ [] = made ∙ ap (map mk) shape in
    let out = λ (l : Value) (l_at : Among l lits). elim (cases_Bool (has_kind kind l)) as (λ w. Apart (mk a) l) [
      | inl same ↦ absurd (subst (λ cs. Among l cs) none (cut_of kind lits l l_at same))
      | inr other ↦ s.apart a l other
    ] in
    record { has = refl; asked = λ cell inside. sym (holds_apart (mk a) cell (each_from (Apart (mk a)) (literals cell) (λ l l_at. out l (inside l l_at)))) }

number_apart : (z : ℤ) (l : Value) → has_kind kinds.Number l ≡ false → Apart (Number z) l
number_apart z (Number a) e = absurd (cc)
number_apart z (Text t) e = number_text z t
number_apart z (Flag b) e = number_flag z b
number_apart z (Day d) e = number_day z d

day_apart : (z : ℤ) (l : Value) → has_kind kinds.Day l ≡ false → Apart (Day z) l
day_apart z (Number a) e = day_number z a
day_apart z (Text t) e = day_text z t
day_apart z (Flag b) e = day_flag z b
day_apart z (Day d) e = absurd (cc)

number_bounds : (z : ℤ) → is_value kinds.Number (Number z) ≡ true → (neg_ℤ (pos greatest_units) ≤ℤ z) × (z ≤ℤ pos greatest_units)
number_bounds z e = let most = leb-true (unsigned_abs z) greatest_units e in (omega (arith, ints, most), omega (arith, ints, most))

number_in : (m : ℤ) → neg_ℤ (pos greatest_units) ≤ℤ m → m ≤ℤ pos greatest_units → unsigned_abs m ≤ greatest_units
number_in m low high = omega (arith, ints, low, high)

number_out : (m : ℤ) → pos greatest_units <ℤ m → greatest_units < unsigned_abs m
number_out m over = omega (arith, ints, over)

least_within : neg_ℤ (pos greatest_units) ≤ℤ pos greatest_units
least_within = omega (arith, ints)

pub number_spanned : Spanned kinds.Number Number
number_spanned = record {
  least = neg_ℤ (pos greatest_units);
  greatest = pos greatest_units;
  ranked = numbers;
  made = number_is;
  has = λ z. refl;
  bounds = number_bounds;
  first = λ z. refl;
  following = λ z most. ap (λ b. cond b (Some (Number (int_max (neg_ℤ (pos greatest_units)) (z +ℤ pos 1)))) None)
      (le-leb (unsigned_abs (int_max (neg_ℤ (pos greatest_units)) (z +ℤ pos 1))) greatest_units (number_in (int_max (neg_ℤ (pos greatest_units)) (z +ℤ pos 1)) (max_low (neg_ℤ (pos greatest_units)) (z +ℤ pos 1)) most));
  stretch = λ cuts. refl;
  cuts = number_cuts;
  apart = number_apart;
  some = least_within;
  value = λ z low high. le-leb (unsigned_abs z) greatest_units (number_in z low high);
  of_kind = λ z. refl;
  beyond = λ z over. ap (λ b. cond b (Some (Number (int_max (neg_ℤ (pos greatest_units)) (z +ℤ pos 1)))) None)
      (lt-leb (unsigned_abs (int_max (neg_ℤ (pos greatest_units)) (z +ℤ pos 1))) greatest_units (number_out (int_max (neg_ℤ (pos greatest_units)) (z +ℤ pos 1)) over));
}

day_bounds : (z : ℤ) → is_value kinds.Day (Day z) ≡ true → (first_day ≤ℤ z) × (z ≤ℤ last_day)
day_bounds z e = let parts = and_parts (int_le first_day z) (int_le z last_day) e in (le_so first_day z parts.0, le_so z last_day parts.1)

first_within : first_day ≤ℤ last_day
first_within = omega (arith, ints)

pub day_spanned : Spanned kinds.Day Day
day_spanned = record {
  least = first_day;
  greatest = last_day;
  ranked = days;
  made = day_is;
  has = λ z. refl;
  bounds = day_bounds;
  first = λ z. refl;
  following = λ z most. ap (λ b. cond b (Some (Day (int_max first_day (z +ℤ pos 1)))) None)
      (and_from (int_le first_day (int_max first_day (z +ℤ pos 1))) (int_le (int_max first_day (z +ℤ pos 1)) last_day) (le_true first_day (int_max first_day (z +ℤ pos 1)) (max_low first_day (z +ℤ pos 1))) (le_true (int_max first_day (z +ℤ pos 1)) last_day most));
  stretch = λ cuts. refl;
  cuts = day_cuts;
  apart = day_apart;
  some = first_within;
  value = λ z low high. and_from (int_le first_day z) (int_le z last_day) (le_true first_day z low) (le_true z last_day high);
  of_kind = λ z. refl;
  beyond = λ z over. ap (λ b. cond b (Some (Day (int_max first_day (z +ℤ pos 1)))) None)
      (and_right (int_le first_day (int_max first_day (z +ℤ pos 1))) (int_le (int_max first_day (z +ℤ pos 1)) last_day) (le_not (int_max first_day (z +ℤ pos 1)) last_day over));
}

-- a number or a day in any region of its kind
spanned_located : {kind : Kind} {mk : ℤ → Value} → Spanned kind mk → (lits : List Value) (r : Region) → Among r (stretches kind (sort_values (filter (has_kind kind) lits))) → (v : Value) → has_kind kind v ≡ true → is_value kind v ≡ true → is_in r v ≡ true → IsLocated lits r v
spanned_located {kind} {mk} s lits r at v kinded value in_v =
    let a = s.made v kinded in
    let cuts = s.cuts lits in
    let all : Among r (regions_of_order (map mk cuts.numbers)) = subst (λ cs. Among r (regions_of_order cs)) cuts.made (subst (λ rs. Among r rs) (s.stretch (sort_values (filter (has_kind kind) lits))) at) in
    let shape = each_at (Shape mk cuts.numbers) (regions_of_order (map mk cuts.numbers)) r (shapes mk cuts.numbers) all in
    let value_a = subst (λ x. is_value kind x ≡ true) a.1 value in
    subst (λ x. IsLocated lits r x) (sym a.1) (span_located s lits r at a.0 value_a (subst (λ x. is_in r x ≡ true) a.1 in_v) cuts.numbers cuts.made shape (kind_is kind (mk a.0) value_a))

-- a text in its region
text_located : (lits cuts : List Value) → cuts ≡ sort_values (filter (has_kind kinds.Text) lits) → (r : Region) → Among r (regions_of_names cuts) → (t : List ℕ) → is_in r (Text t) ≡ true → IsLocated lits r (Text t)
text_located lits [] cuts_are r (inl e) t in_t =
    let out : list_any (λ name. is_equal (Text t) name) (sort_values (filter (has_kind kinds.Text) lits)) ≡ false = ap (λ cs. list_any (λ name. is_equal (Text t) name) cs) (sym cuts_are) in
    subst (λ x. IsLocated lits x (Text t)) e
    (record { has = refl; asked = λ cell inside. sym (holds_apart (Text t) cell (each_from (Apart (Text t)) (literals cell) (λ l l_at. unnamed_apart lits t out l (inside l l_at)))) })
text_located lits [] cuts_are r (inr none) t in_t = absurd none
text_located lits (c ∷ cs) cuts_are r at t in_t =
    elim (among_split r (map At (c ∷ cs)) (Other (c ∷ cs) ∷ []) at) [
      | inl one ↦
          (let regions_of_names = among_at r (c ∷ cs) one in
          subst (λ x. IsLocated lits x (Text t)) regions_of_names.1 (at_located lits regions_of_names.0 (Text t) (subst (λ x. is_in x (Text t) ≡ true) (sym regions_of_names.1) in_t) refl))
      | inr rest ↦
          (elim rest [
            | inl e ↦
                (let out : list_any (λ name. is_equal (Text t) name) (sort_values (filter (has_kind kinds.Text) lits)) ≡ false =
                ap (λ names. list_any (λ name. is_equal (Text t) name) names) (sym cuts_are) ∙ not-true (list_any (λ name. is_equal (Text t) name) (c ∷ cs)) (subst (λ y. is_in y (Text t) ≡ true) (sym e) in_t) in
                subst (λ x. IsLocated lits x (Text t)) e
                (record { has = refl; asked = λ cell inside. sym (holds_apart (Text t) cell (each_from (Apart (Text t)) (literals cell) (λ l l_at. unnamed_apart lits t out l (inside l l_at)))) }))
            | inr none ↦ absurd none
          ])
    ]

-- a value of the column's kind in its region
pub located : (kind : Kind) (lits : List Value) (r : Region) → Among r (stretches kind (sort_values (filter (has_kind kind) lits))) → (v : Value) → has_kind kind v ≡ true → is_value kind v ≡ true → is_in r v ≡ true → IsLocated lits r v
located kinds.Number lits r at v kinded value in_v = spanned_located number_spanned lits r at v kinded value in_v
located kinds.Day lits r at v kinded value in_v = spanned_located day_spanned lits r at v kinded value in_v
located kinds.Text lits r at v kinded value in_v =
    let a = text_is v kinded in
    subst (λ x. IsLocated lits r x) (sym a.1) (text_located lits (sort_values (filter (has_kind kinds.Text) lits)) refl r at a.0 (subst (λ x. is_in r x ≡ true) a.1 in_v))
located kinds.Flag lits r (inl e) v kinded value in_v =
    subst (λ x. IsLocated lits x v) e (at_located lits (Flag false) v (subst (λ x. is_in x v ≡ true) (sym e) in_v) (kind_is kinds.Flag v value))
located kinds.Flag lits r (inr (inl e)) v kinded value in_v =
    subst (λ x. IsLocated lits x v) e (at_located lits (Flag true) v (subst (λ x. is_in x v ≡ true) (sym e) in_v) (kind_is kinds.Flag v value))
located kinds.Flag lits r (inr (inr none)) v kinded value in_v = absurd none
