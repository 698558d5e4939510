use Rattle.std.proofs.Common.{◌++◌, map, sym, ◌∙◌}
use Rattle.toml.specs.View.{view}
use Rattle.dtable.specs.Scope.{seen_of, taken_names, output_names}
use Rattle.dtable.proofs.ReadParts.{IsNewlyNamed-taken}
use Rattle.dtable.proofs.reading.outputs.read_new_name.Goals as goal

pub returns-then-is_taken_output : goal.returns-then-is_taken_output
returns-then-is_taken_output c _ =
    let taken = rw c.as_str.ensures.text at c.is_taken_output.ensures in
    IsNewlyNamed-taken (taken_names c.args.names.now (map seen_of c.args.tables.now) ++ output_names c.args.front.now) (view c.args.entry.now) c.in_ok-name.name c.in_ok-name.ensures (sym taken ∙ c.if-is_taken_output.true)
