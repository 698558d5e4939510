use Rattle.std.proofs.Common.{◌≡◌, take}
use Rattle.std.specs.Prelude.{filter_map}
use Rattle.settlement.specs.Roles.{text_of}
use Rattle.plan_zones.proofs.benefit.texts_in.Given as goal

abbrev pub invariant-loop-value : goal.invariant-loop-value
invariant-loop-value l = l.texts ≡ filter_map text_of (take l.value-index l.values)
