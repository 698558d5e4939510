use Rattle.plan_rows.proofs.RowRecords.{fitted_pushed}
use Rattle.plan_rows.proofs.valued_row.push_fitted.Goals as goal

pub loop-place-preserved : goal.loop-place-preserved
loop-place-preserved c = fitted_pushed _ _ _ _ _ _ c.field_or_empty.ensures c.loop-place.invariant c.in_ok-push.ensures
