use Rattle.std.proofs.Common.{◌≡◌, false, take}
use Rattle.std.specs.List.{list_any}
use Rattle.tables.specs.Inputs.{reads}
use Rattle.tables.proofs.plan.Plan.needs.Given as goal

abbrev pub invariant-loop-table : goal.invariant-loop-table
invariant-loop-table l = list_any (λ t. list_any (λ i. reads l.place i.origin) t.inputs) (take l.table-index l.table-items) ≡ false
