use Rattle.std.proofs.Common.{◌≡◌, false, take}
use Rattle.std.specs.List.{list_any}
use Rattle.dtable.specs.NameForm.{is_among}
use Rattle.dtable.specs.Scope.{output_names}
use Rattle.dtable.proofs.reading.scope.is_output_of.Given as goal

abbrev pub invariant-loop-table : goal.invariant-loop-table
invariant-loop-table l = list_any (λ t. is_among l.name (output_names t.outputs)) (take l.table-index l.tables) ≡ false
