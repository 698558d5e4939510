-- The money text of whole cents denotes these cents.
use Rattle.std.proofs.Common.{◌≡◌, ℕ, ℤ, unsigned_abs, ◌/◌, ◌%◌, ◌<◌, ◌≤◌, decimal, refl, arith}
use Rattle.std.proofs.lemmas.Fmt.{decimal_is_IsNumeral}
use Rattle.std.specs.Str.Parse.{AllDigits, digits_value}
use Rattle.fixpoint.specs.Money.{IsCents, money_text, two_digits}
use Rattle.fixpoint.specs.Number.{IsInRange, is_negative}
use Rattle.fixpoint.specs.NumberText.{Denotes, IsCountOf}
use Rattle.fixpoint.proofs.Digits.{digits_value-append}
use Rattle.fixpoint.proofs.ShortestText.{digit_is, digit_is_below, units_are_signed}

AllDigits-two_digits : (n : ℕ) → n < 100 → AllDigits 10 (two_digits n)
AllDigits-two_digits n h = (digit_is_below (n / 10) (omega arith), (digit_is_below (n % 10) (omega arith), tt))

digits_value-two_digits : (n : ℕ) → n < 100 → digits_value 10 (two_digits n) ≡ n
digits_value-two_digits n h =
    let tens = digit_is (n / 10) (omega arith) in
    let ones = digit_is (n % 10) (omega arith) in
    omega (arith, tens, ones)

-- the whole part and two decimals have the count of whole cents
count_of_two : (units : ℕ) → units ≤ 999999999999999 → units % 100 ≡ 0 → IsCountOf (decimal (units / 10000)) (two_digits (units % 10000 / 100)) units
count_of_two units h cents =
    let whole = (decimal_is_IsNumeral (units / 10000) (omega arith)).1 in
    let rest = digits_value-two_digits (units % 10000 / 100) (omega arith) in
    let value = digits_value-append (decimal (units / 10000)) (two_digits (units % 10000 / 100)) in
    omega (arith, whole, rest, value)

pub money_text_denotes : (units : ℤ) → IsInRange units → IsCents units → Denotes (money_text units) units
money_text_denotes units h cents =
    let count = unsigned_abs units in
    let whole = decimal_is_IsNumeral (count / 10000) (omega arith) in
    record {
      worth = record {
        text = record {
          negative = is_negative units;
          whole = decimal (count / 10000);
          fraction = two_digits (count % 10000 / 100);
          spelled = refl;
          whole_digits = whole.0.1;
          fraction_digits = AllDigits-two_digits (count % 10000 / 100) (omega arith);
          has_digit = omega (arith, whole.0.0);
        };
        count = count;
        counted = count_of_two count h cents;
        is_signed = units_are_signed units;
      };
      in_range = h;
    }
