use Rattle.std.proofs.Common.{◌+◌, sym, subst}
use Rattle.feel_tests.specs.declared.kind.Kind.TheVariants.{Day}
use Rattle.plan_rows.specs.Filing.{HasNoKind, LacksKind}
use Rattle.plan_rows.proofs.Claims.{lacks_day}
use Rattle.plan_rows.proofs.filing.service_at.Goals as goal

pub returns-in-None-clause-unfit : goal.returns-in-None-clause-unfit
returns-in-None-clause-unfit c =
    let plan = c.args.plan.now in
    let given = c.args.given.now in
    let placed = c.member_place-place.ensures in
    let lacks : LacksKind given (c.member_place-place.result + 1) Day = rw c.in-None.is at c.value_of_kind.ensures.none in
    subst (λ p. HasNoKind plan given (p + 1)) (sym placed) (lacks_day plan given c.names-names.ensures.sound (subst (λ p. LacksKind given (p + 1) Day) placed lacks))
