use Rattle.std.proofs.Common.{sym}
use Rattle.plan_rows.proofs.Rows.{tested_right, tested_differing}
use Rattle.plan_rows.proofs.report.Counts.outcome_of_rows.Goals as goal

pub returns-then-self : goal.returns-then-self
returns-then-self c = λ judgements is. sym (tested_right judgements c.args.self is c.requires c.if-self.true)

pub returns-else-self : goal.returns-else-self
returns-else-self c = λ judgements is. sym (tested_differing judgements c.args.self is c.if-self.false)
