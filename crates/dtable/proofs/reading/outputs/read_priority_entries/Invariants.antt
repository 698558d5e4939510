use Rattle.std.proofs.Common.{[], take}
use Rattle.toml.specs.View.{items_view}
use Rattle.dtable.specs.Document.{EachAfter}
use Rattle.dtable.specs.PlanFile.{IsPriority}
use Rattle.dtable.proofs.reading.outputs.read_priority_entries.Given as goal

abbrev pub invariant-loop-entry : goal.invariant-loop-entry
invariant-loop-entry l = EachAfter (λ x. x) (IsPriority l.kind) [] (items_view (take l.entry-index l.entries)) l.list
