use Rattle.std.proofs.Common.{take, map}
use Rattle.toml.specs.View.{items_view}
use Rattle.dtable.specs.Document.{Each}
use Rattle.dtable.specs.PlanFile.{IsRule}
use Rattle.dtable.specs.Scope.{seen_of}
use Rattle.dtable.proofs.reading.rules.read_rules.Given as goal

abbrev pub invariant-loop-index : goal.invariant-loop-index
invariant-loop-index l = Each (IsRule l.names (map seen_of l.tables) l.inputs l.outputs) (items_view (take l.index l.entries)) l.rules
