use Rattle.dtable.proofs.Exits.{passed_on}
use Rattle.dtable.specs.PlanFile.{IsRule}
use Rattle.dtable.specs.Scope.{seen_of}
use Rattle.toml.specs.View.{view}
use Rattle.std.proofs.Common.{map}
use Rattle.dtable.proofs.reading.rules.read_rule.Goals as goal

pub returns-in_err-cells : goal.returns-in_err-cells
returns-in_err-cells c =
    passed_on (IsRule c.args.names.now (map seen_of c.args.tables.now) c.args.inputs.now c.args.outputs.now (view c.args.entry.now)) c.from_residual.result _ c.from_residual.ensures.1
    (λ memory rule h. c.in_err-cells.ensures memory rule.cells h.when)

pub returns-in_err-entries : goal.returns-in_err-entries
returns-in_err-entries c =
    passed_on (IsRule c.args.names.now (map seen_of c.args.tables.now) c.args.inputs.now c.args.outputs.now (view c.args.entry.now)) c.from_residual-in_err-entries.result _ c.from_residual-in_err-entries.ensures.1
    (λ memory rule h. c.in_err-entries.ensures memory rule.entries h.then)
