use Rattle.std.proofs.Common.{subst, sym}
use Rattle.test_gate.specs.Words.{IsAtWork}
use Rattle.test_gate.proofs.Jobs.{stays_at_work}
use Rattle.test_gate.proofs.tests.alone.finish.Goals as goal

pub returns-clause-at_work : goal.returns-clause-at_work
returns-clause-at_work g c =
    stays_at_work c.jobs_are_stable.ensures c.args.gate.now c.finish-reply.new.self c.copy_of-spare.result c.finish-reply.ensures.leads
    (subst (IsAtWork c.args.gate.now) (sym c.copy_of-spare.ensures) c.requires.at_work)
