use Rattle.test_gate.proofs.Callers.{seated_after_take, stays_seated_worn}
use Rattle.test_gate.proofs.tests.seats.take.Goals as goal

pub returns : goal.returns
returns g c =
    seated_after_take (g.G.Gate.has_pass c.args.gate.now) g.G.Gate.known c.args.terms.now c.jobs_are_stable.ensures c.args.seat.pass c.in-Ok.served.pass c.args.seat.job
    c.take_reply-last.result.job c.in-Ok.served.reply c.requires c.in-Ok.ensures.served c.in-Ok.ensures.reply c.in-Ok.ensures.work c.take_reply-last.ensures

pub returns-in-Err : goal.returns-in-Err
returns-in-Err g c =
    stays_seated_worn (g.G.Gate.has_pass c.args.gate.now) g.G.Gate.known c.args.terms.now g.G.Gate.is_worn c.args.seat.pass c.in-Err.worn.pass c.args.seat.job c.requires
    c.in-Err.ensures.worn
