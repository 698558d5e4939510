use Rattle.std.proofs.Common.{◌≡◌, length, filter, take}
use Rattle.std.specs.List.{range_with_len}
use Rattle.settlement.specs.Reads.{is_read}
use Rattle.settlement.proofs.bindings.places_read.Given as goal

abbrev pub invariant-loop-place : goal.invariant-loop-place
invariant-loop-place l = l.places ≡ filter (is_read l.plan) (take l.place (range_with_len 0 (length l.plan.names)))
