-- The exit status of an error is 1 to 3.
use Rattle.std.proofs.Common.{◌≤◌, arith}
use Rattle.evaluation.proofs.Statuses as value
use Rattle.plan_rows.specs.declared.stop.TestStop.{TestStop}
use Rattle.plan_rows.specs.declared.stop.TestStop.TheVariants as stop
use Rattle.plan_rows.specs.Stop.{status_of}
use Rattle.plan_rows.specs.declared.rows_stop.RowsStop.{RowsStop}
use Rattle.plan_rows.specs.declared.rows_stop.RowsStop.TheVariants as rows
use Rattle.plan_rows.specs.RowsStop.{status_of as status_of_rows}

pub least_status : (s : TestStop) → 1 ≤ status_of s
least_status (stop.Value s) = value.least_status s
least_status s = grind arith

pub greatest_status : (s : TestStop) → status_of s ≤ 3
greatest_status (stop.Value s) = value.greatest_status s
greatest_status s = grind arith

pub least_of_rows : (s : RowsStop) → 1 ≤ status_of_rows s
least_of_rows (rows.Value s) = value.least_status s
least_of_rows s = grind arith

pub greatest_of_rows : (s : RowsStop) → status_of_rows s ≤ 3
greatest_of_rows (rows.Value s) = value.greatest_status s
greatest_of_rows s = grind arith
