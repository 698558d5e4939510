-- Results of the steps that read a number text.
use Rattle.std.specs.Prelude.{◌≡◌, ◌≢◌, ℕ, ◌<◌, ◌≤◌, Bool, List, length, take, slice_index, Result, Ok, Err}
use Rattle.std.specs.Char.{digit_value}
use Rattle.std.specs.Str.Parse.{AllDigits}
use Rattle.fixpoint.specs.Number.{greatest_units}
use Rattle.fixpoint.specs.NumberText.{dot_text, IsNumberText, IsCountOf}
use Rattle.fixpoint.specs.declared.fault.NumFault.{NumFault}
use Rattle.fixpoint.specs.declared.fault.NumFault.TheVariants.{NotNumber, TooFine, TooLarge}

-- the bytes begin with this number of digits, and the next byte, if any, is not a digit
pub record BeginsWithDigits (bytes : List ℕ) (count : ℕ) : Type 0 where
  pub within : count ≤ length bytes
  pub digits : AllDigits 10 (take count bytes)
  pub stops : count < length bytes → ¬ (digit_value (slice_index bytes count) < 10)

-- the bytes are neither empty nor a dot and digits
abbrev pub IsNoDotText : List ℕ → Type 0
IsNoDotText bytes = (fraction : List ℕ) → AllDigits 10 fraction → bytes ≢ dot_text fraction

-- the bytes are a dot and this fraction, or both are empty
pub record IsDotTextOf (bytes fraction : List ℕ) : Type 0 where
  pub digits : AllDigits 10 fraction
  pub spelled : bytes ≡ dot_text fraction

-- the bytes are a number text with these parts
pub record HasParts (bytes : List ℕ) (negative : Bool) (whole fraction : List ℕ) : Type 0 where
  pub text : IsNumberText bytes
  pub its_sign : text.negative ≡ negative
  pub its_whole : text.whole ≡ whole
  pub its_fraction : text.fraction ≡ fraction

-- the result is right: the count of ten-thousandths that the digits denote, or the error that
-- applies to them
abbrev pub IsCountAnswer : List ℕ → List ℕ → Result ℕ NumFault → Type 0
IsCountAnswer whole fraction (Ok count) = IsCountOf whole fraction count × (count ≤ greatest_units)
IsCountAnswer whole fraction (Err NotNumber) = ⊥
IsCountAnswer whole fraction (Err TooFine) = (count : ℕ) → ¬ IsCountOf whole fraction count
IsCountAnswer whole fraction (Err TooLarge) = (count : ℕ) × IsCountOf whole fraction count × (greatest_units < count)
