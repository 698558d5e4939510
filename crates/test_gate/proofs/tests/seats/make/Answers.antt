use Rattle.test_gate.proofs.Callers.{with_job}
use Rattle.test_gate.proofs.tests.seats.make.Goals as goal

pub finish-requires-clause-at_work : goal.finish-requires-clause-at_work
finish-requires-clause-at_work g c κs within =
    (with_job (g.G.Gate.has_pass c.args.gate.now) g.G.Gate.known c.args.terms.now c.args.seat.pass c.args.seat.job c.job_of.result c.job_of.ensures c.requires).at_work
