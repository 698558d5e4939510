use Rattle.std.proofs.Common.{sym}
use Rattle.plan_rows.proofs.Rows.{tested_none}
use Rattle.plan_rows.proofs.report.Counts.outcome.Goals as goal

pub returns-then-self-eq0 : goal.returns-then-self-eq0
returns-then-self-eq0 c = λ judgements is. sym (tested_none judgements c.args.self is c.if-self-eq0.true)
