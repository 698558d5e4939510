use Rattle.std.proofs.Common.{◌∙◌, refl, arith}
use Rattle.intake_csv.proofs.balances.make_room.Goals as goal

pub loop-init : goal.loop-init
loop-init c = record { count = omega arith; same = λ q. refl; once = λ h. h }

pub loop-preserved : goal.loop-preserved
loop-preserved c =
    let before = c.loop.invariant in
    let more = c.in_ok-add_year.ensures in
    record {
      count = omega (arith, before.count, more.room);
      same = λ q. more.same q ∙ before.same q;
      once = λ h. more.once (before.once h);
    }

pub returns-in_err-add_year-clause-same : goal.returns-in_err-add_year-clause-same
returns-in_err-add_year-clause-same c = λ q. c.in_err-add_year.ensures.same q ∙ c.loop.invariant.same q
