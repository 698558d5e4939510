use Rattle.std.proofs.Common.{◌≡◌, map, take}
use Rattle.regions.specs.declared.region.Region.TheVariants.{At}
use Rattle.regions.proofs.regions_from_cuts.regions_of_names.Given as goal

abbrev pub invariant-loop-name : goal.invariant-loop-name
invariant-loop-name l = l.found.items ≡ map At (take l.name-index l.names)
