use Rattle.std.proofs.lemmas.Grind.{common_steps}
use Rattle.std.proofs.Common.{arith, map, ◌+◌, ◌++◌, take, refl, sym, subst}
use Rattle.toml.specs.View.{view, items_view}
use Rattle.dtable.specs.PlanFile.{IsOutput, AreOutputs}
use Rattle.dtable.specs.Scope.{seen_of, taken_names, output_names}
use Rattle.dtable.proofs.Entries.{EachAfter-more}
use Rattle.dtable.proofs.ReadTables.{AreOutputs-none}
use Rattle.std.proofs.lemmas.List.{take_all}
use Rattle.tables.specs.declared.table.Output.{Output}
use Rattle.tables.specs.Limits.{outputs_limit}
use Rattle.dtable.specs.Document.{EachAfter}
use Rattle.dtable.proofs.Exits.{missing, no_entries, over_limit, passed_on, some_entries}
use Rattle.dtable.proofs.reading.outputs.read_outputs.Goals as goal

pub loop-index-preserved : goal.loop-index-preserved
loop-index-preserved c =
    let taken = taken_names c.args.names.now (map seen_of c.args.tables.now) in
    let entries = c.in_ok-entries.entries.now in
    let entry = c.index-entries-index.result in
    let output = c.in_ok-output.output in
    let new = subst (λ front. IsOutput c.args.hit (taken ++ output_names front) (view entry) output) c.as_slice.ensures c.in_ok-output.ensures in
    subst (λ outputs. EachAfter (λ o. o.name) (IsOutput c.args.hit) taken (items_view (take (c.loop-index.index + 1) entries)) outputs) (sym c.in_ok-push.ensures.ok)
    (EachAfter-more (λ o. o.name) (IsOutput c.args.hit) taken entries c.loop-index.index entry c.loop-index.outputs output c.loop-index-test.true c.index-entries-index.is c.loop-index.invariant new)

pub returns-in_err-output : goal.returns-in_err-output
returns-in_err-output c =
    let taken = taken_names c.args.names.now (map seen_of c.args.tables.now) in
    let entry = c.index-entries-index.result in
    passed_on (AreOutputs c.args.hit taken (view c.args.table.now)) c.from_residual-in_err-output.result _ c.from_residual-in_err-output.ensures.1
    (λ memory. AreOutputs-none c.args.hit taken (view c.args.table.now) c.in_ok-entries.entries.now c.loop-index.index entry c.loop-index.outputs c.in_ok-entries.ensures.ok c.loop-index-test.true c.index-entries-index.is c.loop-index.invariant
    (subst (λ front. (o : Output) → ¬ IsOutput c.args.hit (taken ++ output_names front) (view entry) o) c.as_slice.ensures (c.in_err-output.ensures memory)))

pub returns-then-is_empty : goal.returns-then-is_empty
returns-then-is_empty c _ outputs h = no_entries _ c.in_ok-entries.entries.now h.entries c.is_empty.result c.in_ok-entries.ensures.ok h.written c.is_empty.ensures c.if-is_empty.true h.some

pub returns : goal.returns
returns c =
    let entries = c.in_ok-entries.entries.now in
    record {
      entries = items_view entries;
      written = c.in_ok-entries.ensures.ok;
      some = some_entries entries c.is_empty.result c.is_empty.ensures c.if-is_empty.false;
      within = c.in_ok-check_count.ensures.ok;
      each = subst (λ read. EachAfter (λ o. o.name) (IsOutput c.args.hit) (taken_names c.args.names.now (map seen_of c.args.tables.now)) (items_view read) c.loop-index.outputs) (take_all c.loop-index.index entries c.loop-index-test.false) c.loop-index.invariant;
    }

pub loop-index-init : goal.loop-index-init
loop-index-init c = rw c.new-outputs.ensures tt

pub bounds-entries-index : goal.bounds-entries-index
bounds-entries-index c = c.loop-index-test.true

pub returns-in_err-entries : goal.returns-in_err-entries
returns-in_err-entries c =
    passed_on (AreOutputs c.args.hit (taken_names c.args.names.now (map seen_of c.args.tables.now)) (view c.args.table.now)) c.from_residual.result _ c.from_residual.ensures.1 (λ memory outputs h. missing _ _ c.in_err-entries.ensures.refused h.written)

pub returns-in_err-check_count : goal.returns-in_err-check_count
returns-in_err-check_count c =
    passed_on (AreOutputs c.args.hit (taken_names c.args.names.now (map seen_of c.args.tables.now)) (view c.args.table.now)) c.from_residual-in_err-check_count.result _ c.from_residual-in_err-check_count.ensures.1
    (λ memory outputs h. over_limit _ _ _ outputs_limit c.in_ok-entries.ensures.ok h.written c.in_err-check_count.ensures.refused h.within)

pub returns-in_err-push : goal.returns-in_err-push
returns-in_err-push c = passed_on (AreOutputs c.args.hit (taken_names c.args.names.now (map seen_of c.args.tables.now)) (view c.args.table.now)) c.from_residual-in_err-push.result _ c.from_residual-in_err-push.ensures.1 (λ memory outputs h. memory refl)

pub at-requires-in-loop-index : goal.at-requires-in-loop-index
at-requires-in-loop-index c = grind (arith, common_steps)

pub overflow_add-inputs-in-loop-index : goal.overflow_add-inputs-in-loop-index
overflow_add-inputs-in-loop-index c = grind (arith, common_steps)

pub offset_bounds-entries-index : goal.offset_bounds-entries-index
offset_bounds-entries-index c = grind (arith, common_steps)
