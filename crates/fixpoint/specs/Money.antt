-- Money: whole cents, products rounded to whole cents, and the text of money.
use Rattle.std.specs.Prelude.{◌≡◌, ◌≢◌, ℕ, ℤ, pos, ◌+◌, ◌*◌, ◌/◌, ◌%◌, ◌≤◌, ◌-ℤ◌, ◌*ℤ◌, ◌≤ℤ◌, unsigned_abs, if◌then◌else◌, nat_lt, Bool, ◌==◌, ◌&&◌, int_le, IsTrue, List, [], ◌∷◌, ◌++◌, decimal}
use Rattle.std.specs.Fmt.{sign_text}
use Rattle.fixpoint.specs.Number.{IsInRange, signed, is_negative}
use Rattle.fixpoint.specs.NumberText.{Denotes}

-- the units are whole cents
abbrev pub IsCents : ℤ → Type 0
IsCents units = unsigned_abs units % 100 ≡ 0

-- the units are money: whole cents that are not negative
abbrev pub IsMoney : ℤ → Type 0
IsMoney units = IsCents units × (pos 0 ≤ℤ units)

-- `IsMoney` as a test
abbrev pub is_money : ℤ → Bool
is_money units = (unsigned_abs units % 100 == 0) && int_le (pos 0) units

-- the units are a rate: a number from 0 to 1
abbrev pub is_rate : ℤ → Bool
is_rate units = int_le (pos 0) units && int_le units (pos 10000)

-- `is_rate` as a proposition
abbrev pub IsRate : ℤ → Type 0
IsRate units = IsTrue (is_rate units)

-- the distance between a count of millionths and a count of whole ones, in millionths
abbrev pub distance : ℤ → ℤ → ℕ
distance millionths whole = unsigned_abs (millionths -ℤ whole *ℤ pos 1000000)

-- the whole number is nearest to the count of millionths; of two nearest, it is the even one
pub record IsNearest (millionths whole : ℤ) : Type 0 where
  pub nearest : (other : ℤ) → distance millionths whole ≤ distance millionths other
  pub even_of_two : (other : ℤ) → other ≢ whole → distance millionths other ≡ distance millionths whole → unsigned_abs whole % 2 ≡ 0

-- the units are the product of two numbers, rounded once to whole cents: the product of two counts
-- of units is a count of millionths of a cent
pub record IsCentsOfProduct (one other units : ℤ) : Type 0 where
  pub cents : ℤ
  pub rounded : IsNearest (one *ℤ other) cents
  pub of_cents : units ≡ cents *ℤ pos 100

-- a count of millionths, rounded to a whole number, half to even
abbrev pub half_even : ℕ → ℕ
half_even n =
    let whole = n / 1000000 in
    let rest = n % 1000000 in
    if nat_lt (2 * rest) 1000000 then whole else (if nat_lt 1000000 (2 * rest) then whole + 1 else whole + whole % 2)

-- the product of two numbers, rounded once to whole cents, in units
abbrev pub cents_of_product : ℤ → ℤ → ℤ
cents_of_product one other =
    let product = one *ℤ other in
    signed (is_negative product) (half_even (unsigned_abs product) * 100)

-- `cents_of_product` is the product rounded to whole cents, and no other count is
pub record ProductsAreRounded : Type 0 where
  pub rounded : (one other : ℤ) → IsCentsOfProduct one other (cents_of_product one other)
  pub only : (one other units : ℤ) → IsCentsOfProduct one other units → units ≡ cents_of_product one other

-- the two digits of a count below 100
abbrev pub two_digits : ℕ → List ℕ
two_digits n = (48 + n / 10) ∷ (48 + n % 10) ∷ []

-- the text of whole cents, with exactly two decimals
abbrev pub money_text : ℤ → List ℕ
money_text units =
    let count = unsigned_abs units in
    sign_text (is_negative units) ++ (decimal (count / 10000) ++ 46 ∷ two_digits (count % 10000 / 100))

-- the text of whole cents denotes these cents
abbrev pub MoneyTextDenotes : Type 0
MoneyTextDenotes = (units : ℤ) → IsInRange units → IsCents units → Denotes (money_text units) units
