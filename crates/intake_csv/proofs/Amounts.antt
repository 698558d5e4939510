-- The reading of a field of money.
use Rattle.std.proofs.Common.{◌≡◌, ℕ, ℤ, pos, ◌≤ℤ◌, true, List, refl, arith}
use Rattle.std.proofs.lemmas.Int.{ints}
use Rattle.fixpoint.specs.Money.{IsCents, IsMoney}
use Rattle.fixpoint.specs.Number.{is_negative}
use Rattle.fixpoint.specs.NumberText.{Denotes, DenotesAtMostOne}
use Rattle.feel_tests.specs.TextBytes.{IsText}
use Rattle.feel_tests.specs.declared.value.Value.TheVariants.{Number}
use Rattle.intake_csv.specs.Fields.{Holds, IsFaultless}
use Rattle.intake_csv.specs.declared.column.Content.TheVariants.{Money}
use Rattle.faults.specs.declared.file_fault.RowCause.TheVariants.{FieldCount, Utf8, TooLong, EmptyId, Value as NoValue, NotCents, Negative, Repeated, Sum}

-- a number that is at least zero is not negative
pub not_below : (units : ℤ) → pos 0 ≤ℤ units → ¬ (is_negative units ≡ true)
not_below (ℤ.pos n) h e = cc e
not_below (ℤ.negsuc n) h e = omega (arith, ints)

-- a whole count of cents that is no amount of money is negative
pub below_zero : (units : ℤ) → IsCents units → ¬ IsMoney units → is_negative units ≡ true
below_zero (ℤ.pos n) cents none = absurd (none (cents, omega (arith, ints)))
below_zero (ℤ.negsuc n) cents none = refl

pub money_read : DenotesAtMostOne → (bytes : List ℕ) (units : ℤ) → IsText bytes → Denotes bytes units → IsMoney units → Holds Money bytes (Number units) × IsFaultless Money bytes
money_read one bytes units text denotes money =
    (record { text = text; spells = record { plain = (refl, denotes); year = λ e. cc e }; allowed = (units, refl, money) }, faultless)
  where
    faultless : IsFaultless Money bytes
    faultless Utf8 h = h text.0
    faultless TooLong h = omega (arith, h.1, text.1)
    faultless EmptyId h = cc h.0
    faultless NoValue h = h.1 (Number units) (record { plain = (refl, denotes); year = λ e. cc e })
    faultless NotCents h = let same = one bytes units h.1.units denotes h.1.denotes in h.1.finer (rw same at money.0)
    faultless Negative h = let same = one bytes units h.1.units denotes h.1.denotes in not_below units money.1 (rw same h.1.below)
    faultless FieldCount h = h
    faultless Repeated h = h
    faultless Sum h = h
