use Rattle.std.proofs.Common.{◌≡◌, filter}
use Rattle.std.specs.List.{range_with_len}
use Rattle.tables.specs.Inputs.{needs}
use Rattle.cutplan.proofs.input_class.names_read.Given as goal

abbrev pub invariant-loop-place : goal.invariant-loop-place
invariant-loop-place l = l.places ≡ filter (needs l.plan.tables) (range_with_len 0 l.place)
