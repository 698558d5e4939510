use Rattle.std.proofs.Common.{map, ap, sym, ◌∙◌}
use Rattle.toml.specs.View.{view}
use Rattle.tables.specs.Plan.{satisfies_constraints}
use Rattle.dtable.specs.Scope.{seen_of}
use Rattle.dtable.proofs.ReadTables.{IsTable-no_outputs, IsTable-unmet, IsTable-no_rules, HasColumns}
use Rattle.dtable.proofs.Exits.{passed_on}
use Rattle.dtable.specs.PlanFile.{IsTable}
use Rattle.dtable.proofs.reading.table_list.read_table.Goals as goal

pub returns-in_err-hit : goal.returns-in_err-hit
returns-in_err-hit c =
    passed_on (IsTable c.args.names.now (map seen_of c.args.front.now) (view c.args.entry.now)) c.from_residual.result _ c.from_residual.ensures.1
    (λ memory t h. c.in_err-hit.ensures memory t.hit h.hit)

pub returns-in_err-inputs : goal.returns-in_err-inputs
returns-in_err-inputs c =
    passed_on (IsTable c.args.names.now (map seen_of c.args.front.now) (view c.args.entry.now)) c.from_residual-in_err-inputs.result _ c.from_residual-in_err-inputs.ensures.1
    (λ memory t h. c.in_err-inputs.ensures memory t.inputs h.inputs)

pub returns-in_err-outputs : goal.returns-in_err-outputs
returns-in_err-outputs c =
    passed_on (IsTable c.args.names.now (map seen_of c.args.front.now) (view c.args.entry.now)) c.from_residual-in_err-outputs.result _ c.from_residual-in_err-outputs.ensures.1
    (λ memory. IsTable-no_outputs c.args.names.now (map seen_of c.args.front.now) (view c.args.entry.now) c.in_ok-hit.hit c.in_ok-hit.ensures (c.in_err-outputs.ensures memory))

pub returns-then-not-satisfies_constraints : goal.returns-then-not-satisfies_constraints
returns-then-not-satisfies_constraints c _ =
    let columns : HasColumns c.args.names.now (map seen_of c.args.front.now) (view c.args.entry.now) c.in_ok-hit.hit c.in_ok-inputs.inputs c.in_ok-outputs.outputs =
    record { word = c.in_ok-hit.ensures; inputs = c.in_ok-inputs.ensures; outputs = c.in_ok-outputs.ensures } in
    let met = c.satisfies_constraints.ensures ∙ ap (satisfies_constraints c.in_ok-hit.hit) c.as_slice-2.ensures in
    IsTable-unmet c.text_spells_at_most_one_value.ensures c.args.names.now (map seen_of c.args.front.now) (view c.args.entry.now) c.in_ok-hit.hit c.in_ok-inputs.inputs c.in_ok-outputs.outputs columns (sym met ∙ c.if-not-satisfies_constraints.true)

pub returns-in_err-rules : goal.returns-in_err-rules
returns-in_err-rules c =
    let none = rw (c.as_slice-3.ensures, c.as_slice-4.ensures) at c.in_err-rules.ensures in
    let columns : HasColumns c.args.names.now (map seen_of c.args.front.now) (view c.args.entry.now) c.in_ok-hit.hit c.in_ok-inputs.inputs c.in_ok-outputs.outputs =
    record { word = c.in_ok-hit.ensures; inputs = c.in_ok-inputs.ensures; outputs = c.in_ok-outputs.ensures } in
    passed_on (IsTable c.args.names.now (map seen_of c.args.front.now) (view c.args.entry.now)) c.from_residual-in_err-rules.result _ c.from_residual-in_err-rules.ensures.1
    (λ memory. IsTable-no_rules c.text_spells_at_most_one_value.ensures c.text_spells_at_most_one_cell.ensures c.args.names.now (map seen_of c.args.front.now) (view c.args.entry.now) c.in_ok-hit.hit c.in_ok-inputs.inputs c.in_ok-outputs.outputs columns (none memory))

pub returns : goal.returns
returns c =
    let met = c.satisfies_constraints.ensures ∙ ap (satisfies_constraints c.in_ok-hit.hit) c.as_slice-2.ensures in
    record {
      hit = c.in_ok-hit.ensures;
      inputs = c.in_ok-inputs.ensures;
      outputs = c.in_ok-outputs.ensures;
      demands = sym met ∙ c.if-not-satisfies_constraints.false;
      rules = rw (c.as_slice-3.ensures, c.as_slice-4.ensures) at c.in_ok-rules.ensures;
    }
