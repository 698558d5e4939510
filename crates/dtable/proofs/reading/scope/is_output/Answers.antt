use Rattle.std.proofs.Common.{ap, is_some, ◌∙◌}
use Rattle.std.specs.Str.{bytes_eq}
use Rattle.tables.specs.declared.table.Output.{Output}
use Rattle.dtable.proofs.ReadNames.{is_among-map}
use Rattle.tables.proofs.Searches.{is_some-position}
use Rattle.dtable.proofs.reading.scope.is_output.Goals as goal

pub returns : goal.returns
returns c =
    c.is_some.ensures ∙ ap is_some c.output_column.ensures ∙ is_some-position (λ (o : Output). bytes_eq o.name c.args.name.now) c.args.outputs.now
    ∙ is_among-map (λ o. o.name) c.args.name.now c.args.outputs.now
