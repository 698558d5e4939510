-- The effect of a claim's outcome on the accumulators of its member and of its family.
use Rattle.std.specs.Prelude.{ℤ, ◌+ℤ◌, Bool, ◌&&◌, IsTrue}
use Rattle.settlement.specs.declared.acc.Acc.{Acc}
use Rattle.settlement.specs.declared.outcome.Outcome.{Outcome}
use Rattle.settlement.specs.Amount.{is_in_range}

-- the accumulators after these amounts are added to the member's and to the family's
abbrev pub add_amounts : Acc → ℤ → ℤ → ℤ → Acc
add_amounts acc met oop paid = record { met = acc.met +ℤ met; oop = acc.oop +ℤ oop; paid = acc.paid +ℤ paid; fmet = acc.fmet +ℤ met; foop = acc.foop +ℤ oop }

-- the accumulators after an outcome: `met` grows by the deductible, `oop` by the member's share,
-- and `paid_outcome` by the amount that the plan pays
abbrev pub after : Acc → Outcome → Acc
after acc outcome = add_amounts acc outcome.ded outcome.share outcome.paid

-- each accumulator is in the range of numbers
abbrev pub are_in_range : Acc → Bool
are_in_range acc = is_in_range acc.met && is_in_range acc.oop && is_in_range acc.paid && is_in_range acc.fmet && is_in_range acc.foop

abbrev pub AreInRange : Acc → Type 0
AreInRange acc = IsTrue (are_in_range acc)
