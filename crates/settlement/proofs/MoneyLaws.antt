-- Sums and differences of amounts of money, and their products with rates, are amounts of money.
use Rattle.std.proofs.Common.{◌≡◌, ℕ, ℤ, pos, negsuc, ◌*◌, ◌/◌, ◌≤◌, ◌+ℤ◌, ◌-ℤ◌, ◌≤ℤ◌, arith}
use Rattle.std.specs.Int.{int_min}
use Rattle.std.proofs.Math.Nat.{mul-le-mul_left}
use Rattle.std.proofs.lemmas.Int.{ints, clamps}
use Rattle.std.proofs.lemmas.Bool.Decides.{nat_tests}
use Rattle.fixpoint.specs.Money.{half_even, cents_of_product}
use Rattle.fixpoint.specs.Number.{IsInRange}
use Rattle.fixpoint.specs.Money.{IsRate}
use Rattle.settlement.specs.Amount.{IsAmount}

pub sum_is_amount : (one other : ℤ) → IsAmount one → IsAmount other → IsInRange (one +ℤ other) → IsAmount (one +ℤ other)
sum_is_amount one other a b fits = record { money = (omega (arith, ints), omega (arith, ints)); in_range = fits }

pub difference_is_amount : (whole part : ℤ) → IsAmount whole → IsAmount part → part ≤ℤ whole → IsAmount (whole -ℤ part)
difference_is_amount whole part a b within = record { money = (omega (arith, ints), omega (arith, ints)); in_range = omega (arith, ints) }

pub smaller_within : (one other : ℤ) → int_min one other ≤ℤ one
smaller_within one other = omega (arith, ints, clamps)

pub within_both : (one other whole : ℤ) → one ≤ℤ other → other ≤ℤ whole → one ≤ℤ whole
within_both one other whole a b = omega (arith, ints)

-- an amount that is at most the smaller of two is at most the first of them
pub within_smaller : (amount smaller one other : ℤ) → amount ≤ℤ smaller → smaller ≡ int_min one other → amount ≤ℤ one
within_smaller amount smaller one other within is = omega (arith, ints, clamps)

-- the parts that are taken one after another from a whole are at most the whole
pub parts_within :
    (whole first second third after_first after_second : ℤ) → after_first ≡ whole -ℤ first → after_second ≡ after_first -ℤ second → third ≤ℤ after_second
    → (first +ℤ second +ℤ third) ≤ℤ whole
parts_within whole first second third after_first after_second a b within = omega (arith, ints)

-- rounding a number that is at most a whole number gives at most that whole number
half_even_within : (n c : ℕ) → n ≤ 1000000 * c → half_even n ≤ c
half_even_within n c below = grind (arith, nat_tests)

-- an amount of money that is at most another one
pub record IsPart (amount part : ℤ) : Type 0 where
  pub is_amount : IsAmount part
  pub within : part ≤ℤ amount

pub part_is_amount : (amount rate : ℤ) → IsAmount amount → IsRate rate → IsPart amount (cents_of_product amount rate)
part_is_amount (pos a) (pos r) is rated =
    let whole : a ≡ 100 * (a / 100) = omega (arith, is.money.0) in
    let part : r ≤ 10000 = grind (arith, ints, nat_tests, rated) in
    let product : a * r ≤ a * 10000 = mul-le-mul_left a part in
    let bound : a * r ≤ 1000000 * (a / 100) = omega (arith, product, whole) in
    let rounded = half_even_within (a * r) (a / 100) bound in
    record { is_amount = record { money = (omega (arith, ints), omega (arith, ints)); in_range = omega (arith, is.in_range) }; within = omega (arith, ints) }
part_is_amount (pos a) (negsuc r) is rated = absurd (grind (arith, ints, nat_tests, rated))
part_is_amount (negsuc a) rate is rated = absurd (omega (arith, ints, is.money.1))
