-- Amounts of money, as counts of units (ten-thousandths).
use Rattle.std.specs.Prelude.{ℤ, Bool, unsigned_abs, nat_le}
use Rattle.fixpoint.specs.Money.{IsMoney}
use Rattle.fixpoint.specs.Number.{IsInRange, greatest_units}

-- the units are an amount of money in the range of numbers
pub record IsAmount (units : ℤ) : Type 0 where
  pub money : IsMoney units
  pub in_range : IsInRange units

-- the units are in the range of numbers
abbrev pub is_in_range : ℤ → Bool
is_in_range units = nat_le (unsigned_abs units) greatest_units
