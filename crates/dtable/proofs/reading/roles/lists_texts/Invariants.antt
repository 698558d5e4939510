use Rattle.std.proofs.Common.{◌≡◌, false, take}
use Rattle.std.specs.List.{list_any}
use Rattle.dtable.specs.Scope.{seen_of}
use Rattle.dtable.proofs.ReadNames.{lists_text_as}
use Rattle.dtable.proofs.reading.roles.lists_texts.Given as goal

abbrev pub invariant-loop-table : goal.invariant-loop-table
invariant-loop-table l = list_any (λ t. list_any (lists_text_as l.name) (seen_of t)) (take l.table-index l.tables) ≡ false
