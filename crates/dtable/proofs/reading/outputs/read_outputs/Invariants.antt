use Rattle.std.proofs.Common.{take, map}
use Rattle.toml.specs.View.{items_view}
use Rattle.dtable.specs.Document.{EachAfter}
use Rattle.dtable.specs.PlanFile.{IsOutput}
use Rattle.dtable.specs.Scope.{seen_of, taken_names}
use Rattle.dtable.proofs.reading.outputs.read_outputs.Given as goal

abbrev pub invariant-loop-index : goal.invariant-loop-index
invariant-loop-index l = EachAfter (λ o. o.name) (IsOutput l.hit) (taken_names l.names (map seen_of l.tables)) (items_view (take l.index l.entries)) l.outputs
