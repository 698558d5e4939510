use Rattle.std.proofs.Common.{◌≡◌, ◌++◌, drop}
use Rattle.regions.specs.Regions.{from_cut}
use Rattle.regions.proofs.regions_from_cuts.from_cut.Given as goal

abbrev pub invariant-loop-high : goal.invariant-loop-high
invariant-loop-high l = l.found.items ++ from_cut l.low (drop l.high-index l.more) ≡ l.initial.found.items ++ from_cut l.first l.more
