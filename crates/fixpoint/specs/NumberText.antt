-- Number texts: which bytes are a number text, which number it denotes, and a number's shortest
-- text.
use Rattle.std.specs.Prelude.{◌≡◌, ℕ, ℤ, ◌+◌, ◌*◌, ◌/◌, ◌%◌, ◌^◌, ◌<◌, Bool, true, if◌then◌else◌, ◌==◌, ◌&&◌, List, [], ◌∷◌, ◌++◌, length, decimal, Result, Ok, Err}
use Rattle.std.specs.Fmt.{sign_text}
use Rattle.std.specs.Int.RustNames.{unsigned_abs}
use Rattle.std.specs.Str.Parse.{AllDigits, digits_value}
use Rattle.fixpoint.specs.Number.{IsInRange, signed, is_negative}
use Rattle.fixpoint.specs.declared.fault.NumFault.{NumFault}
use Rattle.fixpoint.specs.declared.fault.NumFault.TheVariants.{NotNumber, TooFine, TooLarge}

-- a fraction with the dot before it; an empty fraction has no dot
abbrev pub dot_text : List ℕ → List ℕ
dot_text [] = []
dot_text (d ∷ ds) = 46 ∷ d ∷ ds

-- a number text: an optional `-`, then digits with an optional `.` and digits, or `.` and digits
pub record IsNumberText (bytes : List ℕ) : Type 0 where
  pub negative : Bool
  pub whole : List ℕ
  pub fraction : List ℕ
  pub spelled : bytes ≡ sign_text negative ++ (whole ++ dot_text fraction)
  pub whole_digits : AllDigits 10 whole
  pub fraction_digits : AllDigits 10 fraction
  pub has_digit : 0 < length whole + length fraction

-- digits of value N, d of them decimals, denote a count of ten-thousandths: count * 10^d = N *
-- 10,000
abbrev pub IsCountOf : List ℕ → List ℕ → ℕ → Type 0
IsCountOf whole fraction count = count * 10 ^ length fraction ≡ digits_value 10 (whole ++ fraction) * 10000

-- the bytes are a number text of this value in ten-thousandths, in the range or not
pub record IsWorth (bytes : List ℕ) (units : ℤ) : Type 0 where
  pub text : IsNumberText bytes
  pub count : ℕ
  pub counted : IsCountOf text.whole text.fraction count
  pub is_signed : units ≡ signed text.negative count

-- the bytes denote the number with these units
pub record Denotes (bytes : List ℕ) (units : ℤ) : Type 0 where
  pub worth : IsWorth bytes units
  pub in_range : IsInRange units

-- the bytes are a number text whose value is not a whole count of ten-thousandths
pub record IsTooFine (bytes : List ℕ) : Type 0 where
  pub text : IsNumberText bytes
  pub no_units : (units : ℤ) → ¬ IsWorth bytes units

-- the bytes are a number text whose value is a whole count of ten-thousandths out of the range
pub record IsTooLarge (bytes : List ℕ) : Type 0 where
  pub units : ℤ
  pub worth : IsWorth bytes units
  pub beyond : ¬ IsInRange units

-- the result of reading is right: the number that the bytes denote, or the error that applies to
-- them
abbrev pub IsAnswer : List ℕ → Result ℤ NumFault → Type 0
IsAnswer bytes (Ok units) = Denotes bytes units
IsAnswer bytes (Err NotNumber) = ¬ IsNumberText bytes
IsAnswer bytes (Err TooFine) = IsTooFine bytes
IsAnswer bytes (Err TooLarge) = IsTooLarge bytes

-- every byte is `0`
abbrev pub is_zeros : List ℕ → Bool
is_zeros [] = true
is_zeros (d ∷ ds) = d == 48 && is_zeros ds

-- the digits without their trailing zeros
abbrev pub without_end_zeros : List ℕ → List ℕ
without_end_zeros [] = []
without_end_zeros (d ∷ ds) = if is_zeros (d ∷ ds) then [] else d ∷ without_end_zeros ds

-- the four digits of a count below 10,000
abbrev pub four_digits : ℕ → List ℕ
four_digits n = (48 + n / 1000) ∷ (48 + n / 100 % 10) ∷ (48 + n / 10 % 10) ∷ (48 + n % 10) ∷ []

-- a number's shortest text: `-` if the number is negative, the whole part without leading zeros,
-- and, if the fraction is not zero, `.` and its digits without trailing zeros
abbrev pub shortest_text : ℤ → List ℕ
shortest_text units =
    let count = unsigned_abs units in
    sign_text (is_negative units) ++ (decimal (count / 10000) ++ dot_text (without_end_zeros (four_digits (count % 10000))))

-- a text denotes at most one number
abbrev pub DenotesAtMostOne : Type 0
DenotesAtMostOne = (bytes : List ℕ) (one other : ℤ) → Denotes bytes one → Denotes bytes other → one ≡ other

-- a number's shortest text denotes that number
abbrev pub ShortestTextDenotes : Type 0
ShortestTextDenotes = (units : ℤ) → IsInRange units → Denotes (shortest_text units) units
