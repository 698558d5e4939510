use Rattle.std.proofs.Common.{ℤ, refl, subst}
use Rattle.fixpoint.specs.Number.{IsInRange}
use Rattle.settlement.proofs.money.Money.new.Goals as goal

pub returns-then-is_money : goal.returns-then-is_money
returns-then-is_money c = (c.if-is_money.ensures.money.0 refl, refl)

pub invariant_of-result : goal.invariant_of-result
invariant_of-result c = record {
  money = c.if-is_money.ensures.money.0 refl;
  in_range = subst (λ (units : ℤ). IsInRange units) c.units-units.ensures.value c.units-units.ensures.in_range;
}
