use Rattle.std.proofs.Common.{take}
use Rattle.toml.specs.View.{items_view}
use Rattle.dtable.specs.Document.{EachUnder}
use Rattle.dtable.specs.PlanFile.{IsEntry}
use Rattle.dtable.proofs.reading.rules.read_then.Given as goal

abbrev pub invariant-loop-index : goal.invariant-loop-index
invariant-loop-index l = EachUnder IsEntry (take l.index l.outputs) (items_view (take l.index l.entries)) l.literals
