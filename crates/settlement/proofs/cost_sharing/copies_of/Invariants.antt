use Rattle.std.proofs.Common.{◌≡◌, take}
use Rattle.std.specs.List.{filter_map}
use Rattle.settlement.specs.Roles.{text_of}
use Rattle.settlement.proofs.cost_sharing.copies_of.Given as goal

abbrev pub invariant-loop-value : goal.invariant-loop-value
invariant-loop-value l = l.texts ≡ filter_map text_of (take l.value-index l.values)
