use Rattle.std.proofs.Common.{ap, is_some, ◌∙◌}
use Rattle.std.specs.Str.{bytes_eq}
use Rattle.tables.specs.declared.table.InputData.{InputData}
use Rattle.dtable.proofs.ReadNames.{is_among-map}
use Rattle.tables.proofs.Searches.{is_some-position}
use Rattle.dtable.proofs.reading.scope.is_data.Goals as goal

pub returns : goal.returns
returns c =
    c.is_some.ensures ∙ ap is_some c.data_place.ensures ∙ is_some-position (λ (d : InputData). bytes_eq d.name c.args.name.now) c.args.names.now
    ∙ is_among-map (λ d. d.name) c.args.name.now c.args.names.now
