-- What is left of a limit.
use Rattle.std.proofs.Common.{inl, inr, ◌≡◌, ℤ, pos, ◌-ℤ◌, ◌≤ℤ◌, ◌<ℤ◌, ◌⊎◌, sym, subst, arith}
use Rattle.std.proofs.lemmas.Int.{ints, clamps}
use Rattle.fixpoint.specs.Money.{IsMoney}
use Rattle.fixpoint.specs.Number.{IsInRange}
use Rattle.settlement.specs.Amount.{IsAmount}
use Rattle.settlement.specs.Settlement.{remaining}
use Rattle.settlement.proofs.MoneyLaws.{difference_is_amount}

either : (limit used : ℤ) → (used ≤ℤ limit) ⊎ (limit <ℤ used)
either limit used = grind (arith, ints)

-- the difference of two amounts is in the range of numbers
pub in_range : (limit used : ℤ) → IsAmount limit → IsAmount used → IsInRange (limit -ℤ used)
in_range limit used a b = omega (arith, ints, a.money.1, b.money.1, a.in_range, b.in_range)

pub some_left : (limit used a b rest money : ℤ) → a ≡ limit → b ≡ used → rest ≡ a -ℤ b → IsMoney rest → money ≡ rest → money ≡ remaining limit used
some_left limit used a b rest money la ub is whole same =
    let least : pos 0 ≤ℤ rest = whole.1 in
    omega (arith, ints, clamps, la, ub, is, least, same)

pub nothing_left : (limit used a b rest zero : ℤ) → a ≡ limit → b ≡ used → rest ≡ a -ℤ b → IsAmount a → IsAmount b → ¬ IsMoney rest → zero ≡ pos 0 → zero ≡ remaining limit used
nothing_left limit used a b rest zero la ub is x y none nothing = elim (either a b) [
  | inl within ↦ absurd (none (subst IsMoney (sym is) (difference_is_amount a b x y within).money))
  | inr beyond ↦ omega (arith, ints, clamps, la, ub, beyond, nothing)
]
