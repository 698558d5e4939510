-- The exit status of an error is 1 to 3.
use Rattle.std.proofs.Common.{◌≤◌, arith}
use Rattle.evaluation.proofs.Statuses as value
use Rattle.orders.specs.declared.stop.Stop.{Stop}
use Rattle.orders.specs.declared.stop.Stop.TheVariants as stop
use Rattle.orders.specs.Stop.{status_of}

pub least_status : (s : Stop) → 1 ≤ status_of s
least_status (stop.Value s) = value.least_status s
least_status s = grind arith

pub greatest_status : (s : Stop) → status_of s ≤ 3
greatest_status (stop.Value s) = value.greatest_status s
greatest_status s = grind arith
