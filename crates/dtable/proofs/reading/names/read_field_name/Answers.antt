use Rattle.std.proofs.Common.{◌++◌, sym, ◌∙◌}
use Rattle.toml.specs.View.{view}
use Rattle.dtable.specs.NameForm.{names_taken}
use Rattle.dtable.specs.Scope.{data_names}
use Rattle.dtable.proofs.ReadParts.{IsNewlyNamed-taken}
use Rattle.dtable.proofs.reading.names.read_field_name.Goals as goal

pub returns-then-is_taken_field : goal.returns-then-is_taken_field
returns-then-is_taken_field c _ =
    let taken = rw c.as_str.ensures.text at c.is_taken_field.ensures in
    IsNewlyNamed-taken (names_taken c.args.families ++ data_names c.args.front.now) (view c.args.entry.now) c.in_ok-name.name c.in_ok-name.ensures (sym taken ∙ c.if-is_taken_field.true)
