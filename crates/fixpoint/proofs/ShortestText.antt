-- The shortest text of a number denotes that number.
use Rattle.std.proofs.Common.{◌≡◌, ℕ, ℤ, pos, negsuc, unsigned_abs, ◌+◌, ◌*◌, ◌/◌, ◌%◌, ◌<◌, ◌≤◌, decimal, refl, ◌∙◌, arith}
use Rattle.std.proofs.lemmas.Fmt.{decimal_is_IsNumeral}
use Rattle.std.specs.Char.{digit_value}
use Rattle.std.specs.Str.Parse.{AllDigits, digits_value}
use Rattle.fixpoint.specs.Number.{IsInRange, signed, is_negative}
use Rattle.fixpoint.specs.NumberText.{IsCountOf, Denotes, without_end_zeros, four_digits, shortest_text}
use Rattle.fixpoint.proofs.Digits.{digits_value-append, AllDigits-without_end_zeros, value_of_digit}
use Rattle.fixpoint.proofs.Counts.{count_to_kept}

pub digit_is : (d : ℕ) → d < 10 → digit_value (48 + d) ≡ d
digit_is d h = value_of_digit (48 + d) (omega arith) (omega arith) ∙ omega arith

pub digit_is_below : (d : ℕ) → d < 10 → digit_value (48 + d) < 10
digit_is_below d h = omega (arith, digit_is d h)

AllDigits-four_digits : (n : ℕ) → n < 10000 → AllDigits 10 (four_digits n)
AllDigits-four_digits n h =
    (digit_is_below (n / 1000) (omega arith), (digit_is_below (n / 100 % 10) (omega arith), (digit_is_below (n / 10 % 10) (omega arith), (digit_is_below (n % 10) (omega arith), tt))))

value_of_four : (a b c d : ℕ) → (((0 * 10 + a) * 10 + b) * 10 + c) * 10 + d ≡ a * 1000 + b * 100 + c * 10 + d
value_of_four a b c d = omega arith

parts_of_four : (n : ℕ) → n < 10000 → n / 1000 * 1000 + n / 100 % 10 * 100 + n / 10 % 10 * 10 + n % 10 ≡ n
parts_of_four n h = omega arith

digits_value-four_digits : (n : ℕ) → n < 10000 → digits_value 10 (four_digits n) ≡ n
digits_value-four_digits n h =
    let a = digit_is (n / 1000) (omega arith) in
    let b = digit_is (n / 100 % 10) (omega arith) in
    let c = digit_is (n / 10 % 10) (omega arith) in
    let d = digit_is (n % 10) (omega arith) in
    omega (arith, a, b, c, d, parts_of_four n h)

-- the whole part and all four decimals have the count
count_of_four : (units : ℕ) → units ≤ 999999999999999 → IsCountOf (decimal (units / 10000)) (four_digits (units % 10000)) units
count_of_four units h =
    let whole = (decimal_is_IsNumeral (units / 10000) (omega arith)).1 in
    let rest = digits_value-four_digits (units % 10000) (omega arith) in
    let value = digits_value-append (decimal (units / 10000)) (four_digits (units % 10000)) in
    omega (arith, whole, rest, value)

pub units_are_signed : (units : ℤ) → units ≡ signed (is_negative units) (unsigned_abs units)
units_are_signed (pos n) = refl
units_are_signed (negsuc n) = refl

pub shortest_text_denotes : (units : ℤ) → IsInRange units → Denotes (shortest_text units) units
shortest_text_denotes units h =
    let count = unsigned_abs units in
    let whole = decimal_is_IsNumeral (count / 10000) (omega arith) in
    record {
      worth = record {
        text = record {
          negative = is_negative units;
          whole = decimal (count / 10000);
          fraction = without_end_zeros (four_digits (count % 10000));
          spelled = refl;
          whole_digits = whole.0.1;
          fraction_digits = AllDigits-without_end_zeros (four_digits (count % 10000)) (AllDigits-four_digits (count % 10000) (omega arith));
          has_digit = omega (arith, whole.0.0);
        };
        count = count;
        counted = count_to_kept (decimal (count / 10000)) (four_digits (count % 10000)) count (count_of_four count h);
        is_signed = units_are_signed units;
      };
      in_range = h;
    }
