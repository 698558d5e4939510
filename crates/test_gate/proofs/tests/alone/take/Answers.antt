use Rattle.test_gate.proofs.Jobs.{last_at_work, last_stays, work_taken}
use Rattle.test_gate.proofs.tests.alone.take.Goals as goal

pub returns-clause-at_work : goal.returns-clause-at_work
returns-clause-at_work c =
    let law = c.jobs_are_stable.ensures in
    let old = c.args.gate.now in
    let new = c.take.new.self in
    last_at_work new c.args.job c.take_reply.result.job c.take.result (last_stays law old new c.args.job c.take.ensures.leads c.requires)
    (work_taken law old new c.take.result c.take.ensures.reply c.take.ensures.work) c.take_reply.ensures
