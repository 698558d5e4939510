-- The exit status of an error is 1 to 3.
use Rattle.std.proofs.Common.{◌≤◌, arith}
use Rattle.evaluation.specs.declared.stop.ValueStop.{ValueStop}
use Rattle.evaluation.specs.Stop.{status_of}

pub least_status : (s : ValueStop) → 1 ≤ status_of s
least_status s = grind arith

pub greatest_status : (s : ValueStop) → status_of s ≤ 3
greatest_status s = grind arith
