use Rattle.dtable.proofs.Exits.{passed_on}
use Rattle.dtable.specs.PlanFile.{IsField}
use Rattle.dtable.specs.Scope.{data_names}
use Rattle.dtable.specs.NameForm.{names_taken}
use Rattle.toml.specs.View.{view}
use Rattle.std.proofs.Common.{◌++◌}
use Rattle.dtable.proofs.reading.names.read_field.Goals as goal

pub returns-in_err-name : goal.returns-in_err-name
returns-in_err-name c =
    passed_on (IsField (names_taken c.args.families ++ data_names c.args.front.now) (view c.args.entry.now)) c.from_residual.result _ c.from_residual.ensures.1
    (λ memory field h. c.in_err-name.ensures memory field.name h.name)

pub returns-in_err-kind : goal.returns-in_err-kind
returns-in_err-kind c =
    passed_on (IsField (names_taken c.args.families ++ data_names c.args.front.now) (view c.args.entry.now)) c.from_residual-in_err-kind.result _ c.from_residual-in_err-kind.ensures.1
    (λ memory field h. c.in_err-kind.ensures memory field.kind h.kind)
