-- Regions that contain an amount of money.
use Rattle.std.proofs.Common.{◌≡◌, ℕ, ℤ, pos, negsuc, ◌+◌, ◌*◌, ◌/◌, ◌%◌, ◌≤◌, ◌<◌, ◌≤ℤ◌, ◌<ℤ◌, Bool, true, false, ◌&&◌, eqb, inl, inr, List, [], ◌∷◌, Some, None, refl, ap, sym, ◌∙◌, arith}
use Rattle.std.specs.Prelude.{int_lt, int_le}
use Rattle.std.proofs.lemmas.Bool.{and_from, and_parts, both_ways, eqb-true, leb-true, le-leb}
use Rattle.std.proofs.lemmas.Int.{ints}
use Rattle.fixpoint.specs.Money.{is_money}
use Rattle.fixpoint.specs.Number.{greatest_units}
use Rattle.feel_tests.specs.Holds.{is_less}
use Rattle.feel_tests.specs.Value.{kind_of}
use Rattle.feel_tests.specs.declared.kind.Kind.TheVariants as kinds
use Rattle.feel_tests.specs.declared.value.Value.{Value}
use Rattle.feel_tests.specs.declared.value.Value.TheVariants.{Number, Text, Flag, Day}
use Rattle.regions.specs.declared.region.Region.{Region}
use Rattle.regions.specs.declared.region.Region.TheVariants.{Below, At, Between, Above, Other, Every}
use Rattle.regions.specs.Regions.{from_cut, has_value, is_in, regions_of_order}
use Rattle.regions.specs.Values.{is_value}
use Rattle.cutplan.proofs.Alike.{Among}
use Rattle.cutplan.proofs.CutLists.{equal_itself, equal_same}
use Rattle.regions.proofs.Integers.{lt_true, lt_from, le_true, le_so}
use Rattle.plan_zones.specs.Amounts.{has_money, has_money_above, is_below, is_money_value, money_above}

-- money above a number is at least the least amount above it
least_above : (low : ℤ) (m : ℕ) → m % 100 ≡ 0 → low <ℤ pos m → money_above low ≤ℤ pos m
least_above (pos n) m cents less =
    let below : n < m = omega (arith, ints, less) in
    let most : (n / 100 + 1) * 100 ≤ m = omega (arith, cents, below) in
    omega (arith, ints, most)
least_above (negsuc n) m cents less = omega (arith, ints)

above_low : (low : ℤ) → low <ℤ money_above low
above_low (pos n) =
    let more : n < (n / 100 + 1) * 100 = omega arith in
    omega (arith, ints, more)
above_low (negsuc n) = omega (arith, ints)

above_is_money : (low : ℤ) → is_money (money_above low) ≡ true
above_is_money (pos n) =
    let whole : ((n / 100 + 1) * 100) % 100 ≡ 0 = omega arith in
    ap (λ k. eqb k 0 && int_le (pos 0) (pos ((n / 100 + 1) * 100))) whole ∙ le_true (pos 0) (pos ((n / 100 + 1) * 100)) (omega (arith, ints))
above_is_money (negsuc n) = refl

above_not_negative : (low : ℤ) → pos 0 ≤ℤ money_above low
above_not_negative (pos n) = omega (arith, ints)
above_not_negative (negsuc n) = omega (arith, ints)

-- an amount of money is a number of whole cents
record Amount (v : Value) : Type 0 where
  cents : ℕ
  is : v ≡ Number (pos cents)
  whole : cents % 100 ≡ 0

amount_of : (v : Value) → is_money_value v ≡ true → Amount v
amount_of (Number (pos m)) money = record { cents = m; is = refl; whole = eqb-true (m % 100) 0 ((and_parts (eqb (m % 100) 0) (int_le (pos 0) (pos m)) money).0) }
amount_of (Number (negsuc m)) money = absurd (both_ways false refl ((and_parts _ false money).1))
amount_of (Text t) money = absurd (both_ways false refl money)
amount_of (Flag b) money = absurd (both_ways false refl money)
amount_of (Day d) money = absurd (both_ways false refl money)

-- a cut below an amount of money
low_cut : (low : Value) (m : ℕ) → is_less low (Number (pos m)) ≡ true → (l : ℤ) × (low ≡ Number l) × (l <ℤ pos m)
low_cut (Number l) m less = (l, refl, lt_from l (pos m) less)
low_cut (Text t) m less = absurd (both_ways false refl less)
low_cut (Flag b) m less = absurd (both_ways false refl less)
low_cut (Day d) m less = absurd (both_ways false refl less)

-- a cut above an amount of money
high_cut : (high : Value) (m : ℕ) → is_less (Number (pos m)) high ≡ true → (h : ℤ) × (high ≡ Number h) × (pos m <ℤ h)
high_cut (Number h) m less = (h, refl, lt_from (pos m) h less)
high_cut (Text t) m less = absurd (both_ways false refl less)
high_cut (Flag b) m less = absurd (both_ways false refl less)
high_cut (Day d) m less = absurd (both_ways false refl less)

-- a region of numbers is not one of other texts
abbrev is_ordered : Region → Bool
is_ordered (Other names) = false
is_ordered _ = true

ordered_from : (low : Value) (cuts : List Value) (r : Region) → Among r (from_cut low cuts) → is_ordered r ≡ true
ordered_from low [] r (inl e) = ap is_ordered (sym e)
ordered_from low [] r (inr (inl e)) = ap is_ordered (sym e)
ordered_from low [] r (inr (inr none)) = absurd none
ordered_from low (high ∷ more) r (inl e) = ap is_ordered (sym e)
ordered_from low (high ∷ more) r (inr (inl e)) = ap is_ordered (sym e)
ordered_from low (high ∷ more) r (inr (inr at)) = ordered_from high more r at

pub ordered : (cuts : List Value) (r : Region) → Among r (regions_of_order cuts) → is_ordered r ≡ true
ordered [] r (inl e) = ap is_ordered (sym e)
ordered [] r (inr none) = absurd none
ordered (c ∷ cs) r (inl e) = ap is_ordered (sym e)
ordered (c ∷ cs) r (inr at) = ordered_from c cs r at

-- a region with an amount of money is found to have one
pub has_money_from : (r : Region) (v : Value) → is_ordered r ≡ true → is_value kinds.Number v ≡ true → is_money_value v ≡ true → is_in r v ≡ true → has_money r ≡ true
has_money_from r v order value money inside =
    let a = amount_of v money in
    let range : a.cents ≤ greatest_units = leb-true a.cents greatest_units (ap (is_value kinds.Number) (sym a.is) ∙ value) in
    from r a.cents a.whole range order (ap (is_in r) (sym a.is) ∙ inside) (ap is_money_value (sym a.is) ∙ money) where
      above : (low : ℤ) (m : ℕ) → m % 100 ≡ 0 → m ≤ greatest_units → low <ℤ pos m → int_le (money_above low) (pos greatest_units) ≡ true
      above low m whole range less =
          let least = least_above low m whole less in
          le_true (money_above low) (pos greatest_units) (omega (arith, ints, least, range))

      from : (r : Region) (m : ℕ) → m % 100 ≡ 0 → m ≤ greatest_units → is_ordered r ≡ true → is_in r (Number (pos m)) ≡ true → is_money_value (Number (pos m)) ≡ true → has_money r ≡ true
      from (Below high) m whole range order inside money =
          let cut = high_cut high m inside in
          let less = cut.2 in
          ap (is_below (pos 0)) cut.1 ∙ lt_true (pos 0) cut.0 (omega (arith, ints, less))
      from (At v) m whole range order inside money = ap is_money_value (sym (equal_same (Number (pos m)) v inside)) ∙ money
      from (Between low high) m whole range order inside money =
          let both = and_parts (is_less low (Number (pos m))) (is_less (Number (pos m)) high) inside in
          let bottom = low_cut low m both.0 in
          let top = high_cut high m both.1 in
          let least = least_above bottom.0 m whole bottom.2 in
          let less = top.2 in
          ap (λ low. has_money_above low (Some high)) bottom.1
          ∙ and_from (int_le (money_above bottom.0) (pos greatest_units)) (is_below (money_above bottom.0) high) (above bottom.0 m whole range bottom.2)
          (ap (is_below (money_above bottom.0)) top.1 ∙ lt_true (money_above bottom.0) top.0 (omega (arith, ints, least, less)))
      from (Above low) m whole range order inside money =
          let bottom = low_cut low m inside in
          ap (λ low. has_money_above low None) bottom.1
          ∙ and_from (int_le (money_above bottom.0) (pos greatest_units)) true (above bottom.0 m whole range bottom.2) refl
      from (Other names) m whole range order inside money = absurd (both_ways false refl order)
      from Every m whole range order inside money = refl

-- an amount of money in a region
pub record MoneyIn (r : Region) : Type 0 where
  pub amount : Value
  pub value : is_value kinds.Number amount ≡ true
  pub money : is_money_value amount ≡ true
  pub inside : is_in r amount ≡ true

-- the least amount above a number
above_value : (low : ℤ) → int_le (money_above low) (pos greatest_units) ≡ true → is_value kinds.Number (Number (money_above low)) ≡ true
above_value (pos n) most = let low = le_so (pos ((n / 100 + 1) * 100)) (pos greatest_units) most in le-leb ((n / 100 + 1) * 100) greatest_units (omega (arith, ints, low))
above_value (negsuc n) most = refl

abbrev nothing : Value
nothing = Number (pos 0)

pub money_in : (r : Region) → has_value r ≡ true → has_money r ≡ true → MoneyIn r
money_in (Below (Number h)) valued has = record { amount = nothing; value = refl; money = refl; inside = has }
money_in (Below (Text t)) valued has = absurd (both_ways false refl has)
money_in (Below (Flag b)) valued has = absurd (both_ways false refl has)
money_in (Below (Day d)) valued has = absurd (both_ways false refl has)
money_in (At v) valued has =
    let a = amount_of v has in
    record { amount = v; value = ap (λ x. is_value kinds.Number x) a.is ∙ ap (λ x. is_value (kind_of x) x) (sym a.is) ∙ valued; money = has; inside = equal_itself v }
money_in (Between (Number l) high) valued has =
    let both = and_parts (int_le (money_above l) (pos greatest_units)) (is_below (money_above l) high) has in
    record {
      amount = Number (money_above l);
      value = above_value l both.0;
      money = above_is_money l;
      inside = and_from (int_lt l (money_above l)) (is_less (Number (money_above l)) high) (lt_true l (money_above l) (above_low l)) (below_less (money_above l) high both.1);
    } where
      below_less : (units : ℤ) (high : Value) → is_below units high ≡ true → is_less (Number units) high ≡ true
      below_less units (Number h) e = e
      below_less units (Text t) e = absurd (both_ways false refl e)
      below_less units (Flag b) e = absurd (both_ways false refl e)
      below_less units (Day d) e = absurd (both_ways false refl e)
money_in (Between (Text t) high) valued has = absurd (both_ways false refl has)
money_in (Between (Flag b) high) valued has = absurd (both_ways false refl has)
money_in (Between (Day d) high) valued has = absurd (both_ways false refl has)
money_in (Above (Number l)) valued has =
    let both = and_parts (int_le (money_above l) (pos greatest_units)) true has in
    record { amount = Number (money_above l); value = above_value l both.0; money = above_is_money l; inside = lt_true l (money_above l) (above_low l) }
money_in (Above (Text t)) valued has = absurd (both_ways false refl has)
money_in (Above (Flag b)) valued has = absurd (both_ways false refl has)
money_in (Above (Day d)) valued has = absurd (both_ways false refl has)
money_in (Other names) valued has = absurd (both_ways false refl has)
money_in Every valued has = record { amount = nothing; value = refl; money = refl; inside = refl }
