use Rattle.std.proofs.Common.{arith}
use Rattle.std.proofs.lemmas.Grind.{common_steps}
use Rattle.test_gate.proofs.Callers.{stays_seated, stays_seated_worn}
use Rattle.test_gate.proofs.tests.seats.offer.Goals as goal

pub returns : goal.returns
returns g c =
    stays_seated (g.G.Gate.has_pass c.args.gate.now) g.G.Gate.known c.args.terms.now c.jobs_are_stable.ensures c.args.seat.pass c.in-Ok.served.pass c.args.seat.job c.requires
    c.in-Ok.ensures.served

pub returns-in-Err : goal.returns-in-Err
returns-in-Err g c =
    stays_seated_worn (g.G.Gate.has_pass c.args.gate.now) g.G.Gate.known c.args.terms.now g.G.Gate.is_worn c.args.seat.pass c.in-Err.worn.pass c.args.seat.job c.requires
    c.in-Err.ensures.worn

pub offer-requires-clause-due : goal.offer-requires-clause-due
offer-requires-clause-due g c = grind (arith, common_steps)
