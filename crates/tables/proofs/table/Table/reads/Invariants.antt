use Rattle.std.proofs.Common.{◌≡◌, false, take}
use Rattle.std.specs.List.{list_any}
use Rattle.tables.specs.Inputs.{reads}
use Rattle.tables.proofs.table.Table.reads.Given as goal

abbrev pub invariant-loop-input : goal.invariant-loop-input
invariant-loop-input l = list_any (λ i. reads l.place i.origin) (take l.input-index l.inputs) ≡ false
