-- The regions of numbers or days, by the values that they contain and the side of each cut that
-- they are on.
use Rattle.std.proofs.Common.{◌≡◌, ℕ, ◌+◌, ℤ, ◌≤ℤ◌, ◌<ℤ◌, inl, inr, ◌&&◌, Bool, true, false, cond, List, [], ◌∷◌, map, refl, ap, sym, ◌∙◌, subst, arith}
use Rattle.std.specs.Prelude.{int_lt, count_by}
use Rattle.std.specs.Ordering.{int_eq}
use Rattle.std.proofs.lemmas.Int.{ints, by_lt_z}
use Rattle.std.proofs.lemmas.Bool.{and_parts}
use Rattle.std.proofs.lemmas.List.Sums.{sum_by-cons}
use Rattle.feel_tests.specs.Holds.{is_equal, is_less}
use Rattle.feel_tests.specs.declared.value.Value.{Value}
use Rattle.regions.specs.declared.region.Region.{Region}
use Rattle.regions.specs.declared.region.Region.TheVariants.{Below, At, Between, Above}
use Rattle.regions.specs.Regions.{regions_of_order, from_cut, is_in}
use Rattle.regions.proofs.Integers.{Beside, beside_same, beside_below, beside_above, lt_true, lt_false, lt_from, same_from, eq_true, eq_below, eq_above}
use Rattle.cutplan.proofs.Alike.{Each, Among}

-- numbers or days: values made of whole numbers, with the order of the numbers
pub record Ranked (mk : ℤ → Value) : Type 0 where
  pub less : (a b : ℤ) → is_less (mk a) (mk b) ≡ int_lt a b
  pub equal : (a b : ℤ) → is_equal (mk a) (mk b) ≡ int_eq a b

-- the list is increasing, and its first number is greater than the number before it
abbrev pub Rising : ℤ → List ℤ → Type 0
Rising low [] = Unit {0}
Rising low (z ∷ zs) = (low <ℤ z) × Rising z zs

-- 1 for a test that holds, otherwise 0
abbrev pub counted : Bool → ℕ
counted t = cond t 1 0

pub none_if : (t : Bool) → t ≡ false → counted t ≡ 0
none_if t e = rw e refl

pub one_if : (t : Bool) → t ≡ true → counted t ≡ 1
one_if t e = rw e refl

-- the count for a list with one more element
count_cons : {X : Type 0} (p : X → Bool) (x : X) (xs : List X) → count_by p (x ∷ xs) ≡ counted (p x) + count_by p xs
count_cons p x xs = sum_by-cons (λ y. cond (p y) 1 0) x xs

pub count_no : {X : Type 0} (p : X → Bool) (x : X) (xs : List X) (n : ℕ) → p x ≡ false → count_by p xs ≡ n → count_by p (x ∷ xs) ≡ n
count_no p x xs n miss rest =
    let all = count_cons p x xs in
    let here = none_if (p x) miss in
    omega (arith, all, here, rest)

pub count_yes : {X : Type 0} (p : X → Bool) (x : X) (xs : List X) (n : ℕ) → p x ≡ true → count_by p xs ≡ n → count_by p (x ∷ xs) ≡ 1 + n
count_yes p x xs n hit rest =
    let all = count_cons p x xs in
    let here = one_if (p x) hit in
    omega (arith, all, here, rest)

-- whether a value lies between two cuts
between_no_low : {mk : ℤ → Value} → Ranked mk → (low high x : ℤ) → x ≤ℤ low → is_in (Between (mk low) (mk high)) (mk x) ≡ false
between_no_low {mk} r low high x h = ap (λ b. b && is_less (mk x) (mk high)) (r.less low x ∙ lt_false low x h)

between_no_high : {mk : ℤ → Value} → Ranked mk → (low high x : ℤ) → low <ℤ x → high ≤ℤ x → is_in (Between (mk low) (mk high)) (mk x) ≡ false
between_no_high {mk} r low high x h k = ap (λ b. b && is_less (mk x) (mk high)) (r.less low x ∙ lt_true low x h) ∙ (r.less x high ∙ lt_false x high k)

between_yes : {mk : ℤ → Value} → Ranked mk → (low high x : ℤ) → low <ℤ x → x <ℤ high → is_in (Between (mk low) (mk high)) (mk x) ≡ true
between_yes {mk} r low high x h k = ap (λ b. b && is_less (mk x) (mk high)) (r.less low x ∙ lt_true low x h) ∙ (r.less x high ∙ lt_true x high k)

-- a value below a cut lies in no region from the cut upwards
none_below : {mk : ℤ → Value} → Ranked mk → (low : ℤ) (more : List ℤ) (x : ℤ) → Rising low more → x <ℤ low → count_by (λ r. is_in r (mk x)) (from_cut (mk low) (map mk more)) ≡ 0
none_below {mk} r low [] x rising h =
    count_no (λ s. is_in s (mk x)) (At (mk low)) (Above (mk low) ∷ []) 0 (r.equal x low ∙ eq_below x low h)
    (count_no (λ s. is_in s (mk x)) (Above (mk low)) [] 0 (r.less low x ∙ lt_false low x (omega (arith, ints))) refl)
none_below {mk} r low (high ∷ more) x rising h =
    count_no (λ s. is_in s (mk x)) (At (mk low)) (Between (mk low) (mk high) ∷ from_cut (mk high) (map mk more)) 0 (r.equal x low ∙ eq_below x low h)
    (count_no (λ s. is_in s (mk x)) (Between (mk low) (mk high)) (from_cut (mk high) (map mk more)) 0 (between_no_low r low high x (omega (arith, ints)))
    (none_below r high more x rising.1 (omega (arith, ints, h, rising.0))))

-- a value at or above a cut lies in one region from the cut upwards
one_above : {mk : ℤ → Value} → Ranked mk → (low : ℤ) (more : List ℤ) (x : ℤ) → Rising low more → low ≤ℤ x → count_by (λ r. is_in r (mk x)) (from_cut (mk low) (map mk more)) ≡ 1
one_above {mk} r low [] x rising h =
    by_lt_z low x
    (λ less. count_no (λ s. is_in s (mk x)) (At (mk low)) (Above (mk low) ∷ []) 1 (r.equal x low ∙ eq_above x low less)
    (count_yes (λ s. is_in s (mk x)) (Above (mk low)) [] 0 (r.less low x ∙ lt_true low x less) refl))
    (λ most. count_yes (λ s. is_in s (mk x)) (At (mk low)) (Above (mk low) ∷ []) 0 (r.equal x low ∙ eq_true x low (omega (arith, ints)))
    (count_no (λ s. is_in s (mk x)) (Above (mk low)) [] 0 (r.less low x ∙ lt_false low x most) refl))
one_above {mk} r low (high ∷ more) x rising h =
    by_lt_z low x
    (λ less. count_no (λ s. is_in s (mk x)) (At (mk low)) (Between (mk low) (mk high) ∷ from_cut (mk high) (map mk more)) 1 (r.equal x low ∙ eq_above x low less)
    (by_lt_z x high
    (λ within. count_yes (λ s. is_in s (mk x)) (Between (mk low) (mk high)) (from_cut (mk high) (map mk more)) 0 (between_yes r low high x less within) (none_below r high more x rising.1 within))
    (λ following. count_no (λ s. is_in s (mk x)) (Between (mk low) (mk high)) (from_cut (mk high) (map mk more)) 1 (between_no_high r low high x less following) (one_above r high more x rising.1 following))))
    (λ most. count_yes (λ s. is_in s (mk x)) (At (mk low)) (Between (mk low) (mk high) ∷ from_cut (mk high) (map mk more)) 0 (r.equal x low ∙ eq_true x low (omega (arith, ints)))
    (count_no (λ s. is_in s (mk x)) (Between (mk low) (mk high)) (from_cut (mk high) (map mk more)) 0 (between_no_low r low high x most)
    (none_below r high more x rising.1 (omega (arith, ints, most, rising.0)))))

-- the cuts are increasing
abbrev pub Cuts : List ℤ → Type 0
Cuts [] = Unit {0}
Cuts (z ∷ zs) = Rising z zs

-- each value lies in exactly one region
pub one_region : {mk : ℤ → Value} → Ranked mk → (cuts : List ℤ) (x : ℤ) → Cuts cuts → count_by (λ r. is_in r (mk x)) (regions_of_order (map mk cuts)) ≡ 1
one_region {mk} r [] x rising = refl
one_region {mk} r (low ∷ more) x rising =
    by_lt_z x low
    (λ less. count_yes (λ s. is_in s (mk x)) (Below (mk low)) (from_cut (mk low) (map mk more)) 0 (r.less x low ∙ lt_true x low less) (none_below r low more x rising less))
    (λ most. count_no (λ s. is_in s (mk x)) (Below (mk low)) (from_cut (mk low) (map mk more)) 1 (r.less x low ∙ lt_false x low most) (one_above r low more x rising most))

-- all values of the region are on the same side of the cut
abbrev pub OneSide : (ℤ → Value) → ℤ → Region → Type 0
OneSide mk c region = (a b : ℤ) → is_in region (mk a) ≡ true → is_in region (mk b) ≡ true → Beside a b c

at_side : {mk : ℤ → Value} → Ranked mk → (low c : ℤ) → OneSide mk c (At (mk low))
at_side r low c a b in_a in_b = beside_same a b c (same_from a low (sym (r.equal a low) ∙ in_a) ∙ sym (same_from b low (sym (r.equal b low) ∙ in_b)))

above_side : {mk : ℤ → Value} → Ranked mk → (low c : ℤ) → c ≤ℤ low → OneSide mk c (Above (mk low))
above_side r low c h a b in_a in_b =
    let one = lt_from low a (sym (r.less low a) ∙ in_a) in
    let two = lt_from low b (sym (r.less low b) ∙ in_b) in
    beside_above a b c (omega (arith, ints, one, h)) (omega (arith, ints, two, h))

between_low_side : {mk : ℤ → Value} → Ranked mk → (low high c : ℤ) → c ≤ℤ low → OneSide mk c (Between (mk low) (mk high))
between_low_side {mk} r low high c h a b in_a in_b =
    let one = lt_from low a (sym (r.less low a) ∙ (and_parts (is_less (mk low) (mk a)) (is_less (mk a) (mk high)) in_a).0) in
    let two = lt_from low b (sym (r.less low b) ∙ (and_parts (is_less (mk low) (mk b)) (is_less (mk b) (mk high)) in_b).0) in
    beside_above a b c (omega (arith, ints, one, h)) (omega (arith, ints, two, h))

between_high_side : {mk : ℤ → Value} → Ranked mk → (low high c : ℤ) → high ≤ℤ c → OneSide mk c (Between (mk low) (mk high))
between_high_side {mk} r low high c h a b in_a in_b =
    let one = lt_from a high (sym (r.less a high) ∙ (and_parts (is_less (mk low) (mk a)) (is_less (mk a) (mk high)) in_a).1) in
    let two = lt_from b high (sym (r.less b high) ∙ (and_parts (is_less (mk low) (mk b)) (is_less (mk b) (mk high)) in_b).1) in
    beside_below a b c (omega (arith, ints, one, h)) (omega (arith, ints, two, h))

-- the regions from a cut upwards are on one side of each earlier cut and of the cut itself
from_low : {mk : ℤ → Value} → Ranked mk → (low : ℤ) (more : List ℤ) (c : ℤ) → Rising low more → c ≤ℤ low → Each (OneSide mk c) (from_cut (mk low) (map mk more))
from_low r low [] c rising h = (at_side r low c, (above_side r low c h, tt))
from_low r low (high ∷ more) c rising h = (at_side r low c, (between_low_side r low high c h, from_low r high more c rising.1 (omega (arith, ints, h, rising.0))))

-- later cuts are greater
later : (low : ℤ) (more : List ℤ) (c : ℤ) → Rising low more → Among c more → low <ℤ c
later low [] c rising at = absurd at
later low (high ∷ more) c rising (inl e) = subst (λ x. low <ℤ x) e rising.0
later low (high ∷ more) c rising (inr at) = let more_than = later high more c rising.1 at in let first = rising.0 in omega (arith, ints, more_than, first)

-- each region from a cut upwards is on one side of each later cut
from_high : {mk : ℤ → Value} → Ranked mk → (low : ℤ) (more : List ℤ) (c : ℤ) → Rising low more → Among c more → Each (OneSide mk c) (from_cut (mk low) (map mk more))
from_high r low [] c rising at = absurd at
from_high {mk} r low (high ∷ more) c rising (inl e) =
    let le : c ≤ℤ high = omega (arith, ints, e) in
    let ge : high ≤ℤ c = omega (arith, ints, e) in
    (at_side r low c, (between_high_side r low high c ge, from_low r high more c rising.1 le))
from_high {mk} r low (high ∷ more) c rising (inr at) =
    let following = later high more c rising.1 at in
    let ge : high ≤ℤ c = omega (arith, ints, following) in
    (at_side r low c, (between_high_side r low high c ge, from_high r high more c rising.1 at))

below_side : {mk : ℤ → Value} → Ranked mk → (high c : ℤ) → high ≤ℤ c → OneSide mk c (Below (mk high))
below_side r high c h a b in_a in_b =
    let one = lt_from a high (sym (r.less a high) ∙ in_a) in
    let two = lt_from b high (sym (r.less b high) ∙ in_b) in
    beside_below a b c (omega (arith, ints, one, h)) (omega (arith, ints, two, h))

-- each region is on one side of each cut
pub sides : {mk : ℤ → Value} → Ranked mk → (cuts : List ℤ) (c : ℤ) → Cuts cuts → Among c cuts → Each (OneSide mk c) (regions_of_order (map mk cuts))
sides r [] c rising at = absurd at
sides {mk} r (low ∷ more) c rising (inl e) =
    let le : c ≤ℤ low = omega (arith, ints, e) in
    let ge : low ≤ℤ c = omega (arith, ints, e) in
    (below_side r low c ge, from_low r low more c rising le)
sides {mk} r (low ∷ more) c rising (inr at) =
    let following = later low more c rising at in
    let ge : low ≤ℤ c = omega (arith, ints, following) in
    (below_side r low c ge, from_high r low more c rising at)
