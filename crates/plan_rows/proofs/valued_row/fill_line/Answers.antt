use Rattle.std.proofs.Common.{arith}
use Rattle.std.proofs.lemmas.Grind.{common_steps}
use Rattle.std.proofs.lemmas.Result.{on_ok_weaker}
use Rattle.plan_rows.proofs.RowRecords.{row_written}
use Rattle.plan_rows.proofs.valued_row.fill_line.Goals as goal

pub returns : goal.returns
returns c = on_ok_weaker c.push_end.result (λ ends. row_written _ _ _ _ _ _ c.clear.ensures c.in_ok-push_fitted.ensures ends) c.push_end.ensures

pub push_end-requires-clause-apart : goal.push_end-requires-clause-apart
push_end-requires-clause-apart c = grind (arith, common_steps)
