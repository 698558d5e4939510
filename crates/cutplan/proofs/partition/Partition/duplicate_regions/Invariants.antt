use Rattle.std.proofs.Common.{◌≡◌, take}
use Rattle.cutplan.proofs.partition.Partition.duplicate_regions.Given as goal

abbrev pub invariant-loop-region : goal.invariant-loop-region
invariant-loop-region l = l.copy ≡ take l.region-index l.region-items
