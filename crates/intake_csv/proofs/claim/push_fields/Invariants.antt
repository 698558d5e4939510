use Rattle.std.proofs.Common.{◌≡◌, ◌++◌, map, take}
use Rattle.intake_csv.specs.Columns.{required_column}
use Rattle.intake_csv.specs.declared.column.Content.TheVariants as contents
use Rattle.intake_csv.proofs.claim.push_fields.Given as goal

abbrev pub invariant-loop-field : goal.invariant-loop-field
invariant-loop-field l = l.columns ≡ l.fn.columns ++ map (λ d. required_column d.name (contents.Plain d.kind)) (take l.field-index l.fields)
