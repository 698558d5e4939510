use Rattle.std.proofs.Common.{take, map}
use Rattle.toml.specs.View.{items_view}
use Rattle.dtable.specs.Document.{EachUnder}
use Rattle.dtable.specs.PlanFile.{IsCellUnder}
use Rattle.dtable.specs.Scope.{seen_of}
use Rattle.dtable.proofs.reading.rules.read_when.Given as goal

abbrev pub invariant-loop-index : goal.invariant-loop-index
invariant-loop-index l = EachUnder (IsCellUnder l.names (map seen_of l.tables)) (take l.index l.inputs) (items_view (take l.index l.entries)) l.cells
