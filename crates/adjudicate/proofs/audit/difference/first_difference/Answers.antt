use Rattle.adjudicate.proofs.SharedRecords.{same_from_eq}
use Rattle.adjudicate.proofs.audit.difference.first_difference.Goals as goal

pub returns-then-eq-clause-same : goal.returns-then-eq-clause-same
returns-then-eq-clause-same c = same_from_eq c.args.given.now c.args.due.now c.eq.result c.eq.ensures c.if-eq.true
