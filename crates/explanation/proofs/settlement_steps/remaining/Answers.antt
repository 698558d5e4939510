use Rattle.explanation.proofs.Remaining.{in_range, nothing_left, some_left}
use Rattle.explanation.proofs.settlement_steps.remaining.Goals as goal

pub unreachable-requires : goal.unreachable-requires
unreachable-requires c =
    let none = rw c.in_default.is at c.sub.ensures in
    none (in_range _ _ c.amount.ensures.amount c.amount-2.ensures.amount)

pub returns-in-Some-new : goal.returns-in-Some-new
returns-in-Some-new c =
    let rest = rw c.in-Some.is at c.sub.ensures in
    let money = rw c.in-Some-new.is at c.new.ensures in
    some_left _ _ _ _ _ _ c.amount.ensures.value c.amount-2.ensures.value rest.1 money.0 money.1

pub returns-in-None : goal.returns-in-None
returns-in-None c =
    let rest = rw c.in-Some.is at c.sub.ensures in
    let none = rw c.in-None.is at c.new.ensures in
    nothing_left _ _ _ _ _ _ c.amount.ensures.value c.amount-2.ensures.value rest.1 c.amount.ensures.amount c.amount-2.ensures.amount none c.zero.ensures
