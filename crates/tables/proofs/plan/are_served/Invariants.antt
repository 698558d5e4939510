use Rattle.std.proofs.Common.{◌≡◌, true, take}
use Rattle.std.specs.List.{list_all}
use Rattle.tables.specs.Inputs.{is_served}
use Rattle.tables.proofs.plan.are_served.Given as goal

abbrev pub invariant-loop-table : goal.invariant-loop-table
invariant-loop-table l = list_all (is_served l.inputs) (take l.table-index l.tables) ≡ true
