use Rattle.std.proofs.Common.{◌≡◌, pos, ◌*ℤ◌, ◌<ℤ◌, ◌≤ℤ◌, unsigned_abs, ap, ◌∙◌, subst, arith}
use Rattle.std.proofs.lemmas.Int.{ints}
use Rattle.fixpoint.proofs.NearestCents.{cents_not_negative, cents_negative, product_read, half_even_high}
use Rattle.fixpoint.proofs.rounding.cents_of_product.Goals as goal

pub overflow_sub-result : goal.overflow_sub-result
overflow_sub-result c =
    let high = half_even_high c.unsigned_abs.result in
    omega (arith, ints, high, c.half_even.ensures)

pub returns-then-product-lt0 : goal.returns-then-product-lt0
returns-then-product-lt0 c =
    let high = half_even_high c.unsigned_abs.result in
    let product = product_read c.args.one c.args.other c.from.result c.from-2.result c.ranges.one c.ranges.other c.from.ensures c.from-2.ensures in
    let sign : (c.args.one *ℤ c.args.other) <ℤ pos 0 = subst (λ z. z <ℤ pos 0) product (omega (arith, ints)) in
    let size : c.unsigned_abs.result ≡ unsigned_abs (c.args.one *ℤ c.args.other) = c.unsigned_abs.ensures.value ∙ ap unsigned_abs product in
    let cents = cents_negative c.args.one c.args.other (c.args.one *ℤ c.args.other) c.unsigned_abs.result c.half_even.result (λ i. c.args.one *ℤ c.args.other) size c.half_even.ensures sign in
    omega (arith, ints, high, cents, c.half_even.ensures)

pub returns-else-product-lt0 : goal.returns-else-product-lt0
returns-else-product-lt0 c =
    let high = half_even_high c.unsigned_abs.result in
    let product = product_read c.args.one c.args.other c.from.result c.from-2.result c.ranges.one c.ranges.other c.from.ensures c.from-2.ensures in
    let sign : pos 0 ≤ℤ (c.args.one *ℤ c.args.other) = subst (λ z. pos 0 ≤ℤ z) product (omega (arith, ints)) in
    let size : c.unsigned_abs.result ≡ unsigned_abs (c.args.one *ℤ c.args.other) = c.unsigned_abs.ensures.value ∙ ap unsigned_abs product in
    let cents = cents_not_negative c.args.one c.args.other (c.args.one *ℤ c.args.other) c.unsigned_abs.result c.half_even.result (λ i. c.args.one *ℤ c.args.other) size c.half_even.ensures sign in
    omega (arith, ints, high, cents, c.half_even.ensures)

pub overflow_mul-units : goal.overflow_mul-units
overflow_mul-units c =
    let high = half_even_high c.unsigned_abs.result in
    omega (arith, ints, high, c.half_even.ensures)

pub overflow_cast-units : goal.overflow_cast-units
overflow_cast-units c =
    let high = half_even_high c.unsigned_abs.result in
    omega (arith, ints, high, c.half_even.ensures)
