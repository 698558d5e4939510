use Rattle.std.proofs.Common.{◌≡◌, ◌≤◌, length, take}
use Rattle.std.specs.List.{filter_map}
use Rattle.settlement.specs.Roles.{text_of}
use Rattle.settlement.proofs.cost_sharing.are_texts_of.Given as goal

abbrev pub invariant-loop-value : goal.invariant-loop-value
invariant-loop-value l = (take l.compared l.remarks ≡ filter_map text_of (take l.value-index l.values)) × (l.compared ≤ length l.remarks)
