-- Accumulators in the range of numbers, one by one.
use Rattle.std.proofs.lemmas.Bool.{and_parts}
use Rattle.std.specs.Prelude.{IsTrue}
use Rattle.settlement.specs.declared.acc.Acc.{Acc}
use Rattle.settlement.specs.Accumulators.{AreInRange}
use Rattle.settlement.specs.Amount.{is_in_range}

pub record EachInRange (acc : Acc) : Type 0 where
  pub met : IsTrue (is_in_range acc.met)
  pub oop : IsTrue (is_in_range acc.oop)
  pub paid : IsTrue (is_in_range acc.paid)
  pub fmet : IsTrue (is_in_range acc.fmet)
  pub foop : IsTrue (is_in_range acc.foop)

pub each_of : (acc : Acc) → AreInRange acc → EachInRange acc
each_of acc all =
    let foop = and_parts _ (is_in_range acc.foop) all in
    let fmet = and_parts _ (is_in_range acc.fmet) foop.0 in
    let paid = and_parts _ (is_in_range acc.paid) fmet.0 in
    let own = and_parts (is_in_range acc.met) (is_in_range acc.oop) paid.0 in
    record { met = own.0; oop = own.1; paid = paid.1; fmet = fmet.1; foop = foop.1 }

pub all_of : (acc : Acc) → EachInRange acc → AreInRange acc
all_of acc each = rw (each.met, each.oop, each.paid, each.fmet) each.foop
