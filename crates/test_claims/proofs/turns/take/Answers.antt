use Rattle.journal.proofs.Work.{others-work, taken-work}
use Rattle.test_claims.proofs.turns.take.Goals as goal

pub returns-clause-work : goal.returns-clause-work
returns-clause-work c = taken-work c.args.lanes.now c.take.new.self c.take.result c.take.ensures.picked c.take.ensures.taken

pub returns-clause-others : goal.returns-clause-others
returns-clause-others c = others-work c.args.lanes.now c.take.new.self c.take.result c.take.ensures.taken c.take.ensures.unchanged
