use Rattle.std.proofs.Common.{[], take}
use Rattle.toml.specs.View.{items_view}
use Rattle.dtable.specs.Document.{EachAfter}
use Rattle.dtable.specs.PlanFile.{IsTable}
use Rattle.dtable.specs.Scope.{seen_of}
use Rattle.dtable.proofs.reading.table_list.read_table_entries.Given as goal

abbrev pub invariant-loop-index : goal.invariant-loop-index
invariant-loop-index l = EachAfter seen_of (IsTable l.names) [] (items_view (take l.index l.entries)) l.tables
