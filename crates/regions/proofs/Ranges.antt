-- The next number or day.
use Rattle.std.proofs.Common.{◌≡◌, ℤ, pos, neg_ℤ, ◌≤ℤ◌, ◌+ℤ◌, ◌&&◌, Bool, false, cond, leb, Some, None, ap, sym, ◌∙◌, arith}
use Rattle.std.specs.Prelude.{int_le, int_lt}
use Rattle.std.specs.Int.{int_max}
use Rattle.std.specs.Int.RustNames.{unsigned_abs}
use Rattle.std.proofs.lemmas.Int.{ints}
use Rattle.std.proofs.lemmas.Bool.{le-leb, leb-true, and_from, false_from_ne_true, and_parts}
use Rattle.fixpoint.specs.Number.{IsInRange, greatest_units}
use Rattle.feel_tests.specs.DayNumber.{first_day, last_day, IsDayNumber}
use Rattle.feel_tests.specs.declared.value.Value.TheVariants.{Number, Day}
use Rattle.regions.specs.Regions.{next, in_range}
use Rattle.regions.proofs.Integers.{lt_false, le_true, le_so}

-- the greater of two numbers, if the second is not less
max_second : (low z : ℤ) → low ≤ℤ z → int_max low z ≡ z
max_second low z h = max_by (int_lt z low) (lt_false z low h) where
  max_by : (b : Bool) → b ≡ false → cond b low z ≡ z
  max_by b e = ap (λ x. cond x low z) e

below_range : (u : ℤ) → IsInRange u → neg_ℤ (pos greatest_units) ≤ℤ (u +ℤ pos 1)
below_range u h = omega (arith, ints, h)

pub number_after : (u x : ℤ) → IsInRange u → IsInRange (u +ℤ pos 1) → x ≡ u +ℤ pos 1 → Some (Number x) ≡ next (Number u)
number_after u x here following e =
    sym (ap (λ z. in_range (Number z)) (max_second (neg_ℤ (pos greatest_units)) (u +ℤ pos 1) (below_range u here)) ∙ ap (λ b. cond b (Some (Number (u +ℤ pos 1))) None) (le-leb (unsigned_abs (u +ℤ pos 1)) greatest_units following) ∙ ap (λ z. Some (Number z)) (sym e))

pub no_number_after : (u : ℤ) → IsInRange u → ¬ IsInRange (u +ℤ pos 1) → None ≡ next (Number u)
no_number_after u here out =
    sym (ap (λ z. in_range (Number z)) (max_second (neg_ℤ (pos greatest_units)) (u +ℤ pos 1) (below_range u here))
    ∙ ap (λ b. cond b (Some (Number (u +ℤ pos 1))) None) (false_from_ne_true (leb (unsigned_abs (u +ℤ pos 1)) greatest_units) (λ e. out (leb-true (unsigned_abs (u +ℤ pos 1)) greatest_units e))))

pub day_after : (u x : ℤ) → IsDayNumber u → IsDayNumber (u +ℤ pos 1) → x ≡ u +ℤ pos 1 → Some (Day x) ≡ next (Day u)
day_after u x here following e =
    let low = here.0 in
    let most : first_day ≤ℤ (u +ℤ pos 1) = following.0 in
    sym (ap (λ z. in_range (Day z)) (max_second first_day (u +ℤ pos 1) most)
    ∙ ap (λ b. cond b (Some (Day (u +ℤ pos 1))) None) (and_from (int_le first_day (u +ℤ pos 1)) (int_le (u +ℤ pos 1) last_day) (le_true first_day (u +ℤ pos 1) following.0) (le_true (u +ℤ pos 1) last_day following.1)) ∙ ap (λ z. Some (Day z)) (sym e))

pub no_day_after : (u : ℤ) → IsDayNumber u → ¬ IsDayNumber (u +ℤ pos 1) → None ≡ next (Day u)
no_day_after u here out =
    let low = here.0 in
    let most : first_day ≤ℤ (u +ℤ pos 1) = omega (arith, ints, low) in
    sym (ap (λ z. in_range (Day z)) (max_second first_day (u +ℤ pos 1) most)
    ∙ ap (λ b. cond b (Some (Day (u +ℤ pos 1))) None) (false_from_ne_true (int_le first_day (u +ℤ pos 1) && int_le (u +ℤ pos 1) last_day) (λ e. let parts = and_parts (int_le first_day (u +ℤ pos 1)) (int_le (u +ℤ pos 1) last_day) e in out (le_so first_day (u +ℤ pos 1) parts.0, le_so (u +ℤ pos 1) last_day parts.1))))
