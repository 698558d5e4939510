use Rattle.std.proofs.Common.{take}
use Rattle.toml.specs.View.{items_view}
use Rattle.dtable.specs.Document.{EachAfter}
use Rattle.dtable.specs.NameForm.{names_taken}
use Rattle.dtable.specs.PlanFile.{IsField}
use Rattle.dtable.proofs.reading.names.read_fields.Given as goal

abbrev pub invariant-loop-index : goal.invariant-loop-index
invariant-loop-index l = EachAfter (λ f. f.name) IsField (names_taken l.families) (items_view (take l.index l.entries)) l.fields
