use Rattle.std.proofs.Common.{◌++◌, map}
use Rattle.toml.specs.View.{view}
use Rattle.dtable.specs.Scope.{seen_of, taken_names, output_names}
use Rattle.dtable.proofs.ReadParts.{IsOutput-no_priority, IsOutput-no_fallback}
use Rattle.dtable.proofs.Exits.{passed_on}
use Rattle.dtable.specs.PlanFile.{IsOutput}
use Rattle.dtable.proofs.reading.outputs.read_output.Goals as goal

pub returns-in_err-name : goal.returns-in_err-name
returns-in_err-name c =
    passed_on (IsOutput c.args.hit (taken_names c.args.names.now (map seen_of c.args.tables.now) ++ output_names c.args.front.now) (view c.args.entry.now)) c.from_residual.result _ c.from_residual.ensures.1
    (λ memory o h. c.in_err-name.ensures memory o.name h.name)

pub returns-in_err-kind : goal.returns-in_err-kind
returns-in_err-kind c =
    passed_on (IsOutput c.args.hit (taken_names c.args.names.now (map seen_of c.args.tables.now) ++ output_names c.args.front.now) (view c.args.entry.now)) c.from_residual-in_err-kind.result _ c.from_residual-in_err-kind.ensures.1
    (λ memory o h. c.in_err-kind.ensures memory o.kind h.kind)

pub returns-in_err-priority : goal.returns-in_err-priority
returns-in_err-priority c =
    passed_on (IsOutput c.args.hit (taken_names c.args.names.now (map seen_of c.args.tables.now) ++ output_names c.args.front.now) (view c.args.entry.now)) c.from_residual-in_err-priority.result _ c.from_residual-in_err-priority.ensures.1
    (λ memory. IsOutput-no_priority c.args.hit (taken_names c.args.names.now (map seen_of c.args.tables.now) ++ output_names c.args.front.now) (view c.args.entry.now) c.in_ok-kind.kind c.in_ok-kind.ensures (c.in_err-priority.ensures memory))

pub returns-in_err-fallback : goal.returns-in_err-fallback
returns-in_err-fallback c =
    let none = rw c.read_kind_of.ensures at c.in_err-fallback.ensures in
    passed_on (IsOutput c.args.hit (taken_names c.args.names.now (map seen_of c.args.tables.now) ++ output_names c.args.front.now) (view c.args.entry.now)) c.from_residual-in_err-fallback.result _ c.from_residual-in_err-fallback.ensures.1
    (λ memory. IsOutput-no_fallback c.args.hit (taken_names c.args.names.now (map seen_of c.args.tables.now) ++ output_names c.args.front.now) (view c.args.entry.now) c.in_ok-kind.kind c.in_ok-kind.ensures (none memory))

pub returns : goal.returns
returns c = record {
  name = c.in_ok-name.ensures;
  kind = c.in_ok-kind.ensures;
  priority = c.in_ok-priority.ensures;
  fallback = rw c.read_kind_of.ensures at c.in_ok-fallback.ensures;
}
