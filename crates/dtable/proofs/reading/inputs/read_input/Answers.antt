use Rattle.std.proofs.Common.{◌≡◌, Some, map, sym, ◌∙◌}
use Rattle.toml.specs.View.{view}
use Rattle.dtable.specs.Scope.{seen_of, origin_of}
use Rattle.dtable.proofs.ReadParts.{IsInput-no_values}
use Rattle.dtable.proofs.Exits.{passed_on}
use Rattle.dtable.specs.PlanFile.{IsInput}
use Rattle.dtable.proofs.reading.inputs.read_input.Goals as goal

pub returns-in_err-name : goal.returns-in_err-name
returns-in_err-name c =
    passed_on (IsInput c.args.names.now (map seen_of c.args.tables.now) (view c.args.entry.now)) c.from_residual.result _ c.from_residual.ensures.1
    (λ memory i h. c.in_err-name.ensures memory i.name h.name)

pub returns-in_err-values : goal.returns-in_err-values
returns-in_err-values c =
    let names = c.args.names.now in
    let earlier = map seen_of c.args.tables.now in
    let found = rw c.as_str.ensures.text at c.origin_of.ensures in
    let known : origin_of names earlier c.in_ok-name.name ≡ Some c.in-Some.origin = sym found ∙ c.in-Some.is in
    passed_on (IsInput c.args.names.now (map seen_of c.args.tables.now) (view c.args.entry.now)) c.from_residual-in_err-values.result _ c.from_residual-in_err-values.ensures.1
    (λ memory. IsInput-no_values names earlier (view c.args.entry.now) c.in_ok-name.name c.in-Some.origin c.in_ok-name.ensures known (c.in_err-values.ensures memory))

pub returns : goal.returns
returns c =
    let found = rw c.as_str.ensures.text at c.origin_of.ensures in
    let known : origin_of c.args.names.now (map seen_of c.args.tables.now) c.in_ok-name.name ≡ Some c.in-Some.origin = sym found ∙ c.in-Some.is in
    record { name = c.in_ok-name.ensures; known = known; values = c.in_ok-values.ensures }
