use Rattle.std.proofs.Common.{◌≡◌, true, take}
use Rattle.std.specs.List.{list_all}
use Rattle.tables.specs.Inputs.{has_value}
use Rattle.tables.proofs.table.Table.is_served.Given as goal

abbrev pub invariant-loop-input : goal.invariant-loop-input
invariant-loop-input l = list_all (λ i. has_value l.inputs i.origin) (take l.input-index l.read) ≡ true
