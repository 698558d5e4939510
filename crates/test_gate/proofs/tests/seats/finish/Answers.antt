use Rattle.std.proofs.Common.{Some}
use Rattle.test_gate.proofs.Callers.{stays_seated, stays_seated_worn, with_copy}
use Rattle.test_gate.proofs.tests.seats.finish.Goals as goal

pub returns : goal.returns
returns g c =
    let own = g.G.Gate.has_pass c.args.gate.now in
    let known = g.G.Gate.known in
    let copy = c.copy_of-spare.result in
    stays_seated own known c.args.terms.now c.jobs_are_stable.ensures c.args.pass c.in-Ok.served.pass (Some copy)
    (with_copy own known c.args.terms.now c.args.pass c.args.job copy c.copy_of-spare.ensures (record { caller = c.requires.caller; at_work = c.requires.at_work })) c.in-Ok.ensures.served

pub returns-in-Err : goal.returns-in-Err
returns-in-Err g c =
    let own = g.G.Gate.has_pass c.args.gate.now in
    let known = g.G.Gate.known in
    let copy = c.copy_of-spare.result in
    stays_seated_worn own known c.args.terms.now g.G.Gate.is_worn c.args.pass c.in-Err.worn.pass (Some copy)
    (with_copy own known c.args.terms.now c.args.pass c.args.job copy c.copy_of-spare.ensures (record { caller = c.requires.caller; at_work = c.requires.at_work })) c.in-Err.ensures.worn
