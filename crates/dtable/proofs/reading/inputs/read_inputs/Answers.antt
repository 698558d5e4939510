use Rattle.std.proofs.lemmas.Grind.{common_steps}
use Rattle.std.proofs.Common.{arith, map, ◌+◌, take, refl, sym, subst}
use Rattle.toml.specs.View.{view, items_view}
use Rattle.dtable.specs.PlanFile.{IsInput, AreInputs}
use Rattle.dtable.specs.Scope.{seen_of}
use Rattle.dtable.proofs.Entries.{Each-more}
use Rattle.dtable.proofs.ReadTables.{AreInputs-none}
use Rattle.std.proofs.lemmas.List.{take_all}
use Rattle.tables.specs.Limits.{inputs_limit}
use Rattle.dtable.specs.Document.{Each}
use Rattle.dtable.proofs.Exits.{missing, no_entries, over_limit, passed_on, some_entries}
use Rattle.dtable.proofs.reading.inputs.read_inputs.Goals as goal

pub loop-index-preserved : goal.loop-index-preserved
loop-index-preserved c =
    let entries = c.in_ok-entries.entries.now in
    let is_input = IsInput c.args.names.now (map seen_of c.args.tables.now) in
    subst (λ inputs. Each is_input (items_view (take (c.loop-index.index + 1) entries)) inputs) (sym c.in_ok-push.ensures.ok)
    (Each-more is_input entries c.loop-index.index c.index-entries-index.result c.loop-index.inputs c.in_ok-input.input c.loop-index-test.true c.index-entries-index.is c.loop-index.invariant c.in_ok-input.ensures)

pub returns-in_err-input : goal.returns-in_err-input
returns-in_err-input c =
    passed_on (AreInputs c.args.names.now (map seen_of c.args.tables.now) (view c.args.table.now)) c.from_residual-in_err-input.result _ c.from_residual-in_err-input.ensures.1
    (λ memory. AreInputs-none c.args.names.now (map seen_of c.args.tables.now) (view c.args.table.now) c.in_ok-entries.entries.now c.loop-index.index c.index-entries-index.result c.in_ok-entries.ensures.ok c.loop-index-test.true c.index-entries-index.is (c.in_err-input.ensures memory))

pub returns-then-is_empty : goal.returns-then-is_empty
returns-then-is_empty c _ inputs h = no_entries _ c.in_ok-entries.entries.now h.entries c.is_empty.result c.in_ok-entries.ensures.ok h.written c.is_empty.ensures c.if-is_empty.true h.some

pub returns : goal.returns
returns c =
    let entries = c.in_ok-entries.entries.now in
    record {
      entries = items_view entries;
      written = c.in_ok-entries.ensures.ok;
      some = some_entries entries c.is_empty.result c.is_empty.ensures c.if-is_empty.false;
      within = c.in_ok-check_count.ensures.ok;
      each = subst (λ read. Each (IsInput c.args.names.now (map seen_of c.args.tables.now)) (items_view read) c.loop-index.inputs) (take_all c.loop-index.index entries c.loop-index-test.false) c.loop-index.invariant;
    }

pub loop-index-init : goal.loop-index-init
loop-index-init c = rw c.new-inputs.ensures tt

pub bounds-entries-index : goal.bounds-entries-index
bounds-entries-index c = c.loop-index-test.true

pub returns-in_err-entries : goal.returns-in_err-entries
returns-in_err-entries c =
    passed_on (AreInputs c.args.names.now (map seen_of c.args.tables.now) (view c.args.table.now)) c.from_residual.result _ c.from_residual.ensures.1 (λ memory inputs h. missing _ _ c.in_err-entries.ensures.refused h.written)

pub returns-in_err-check_count : goal.returns-in_err-check_count
returns-in_err-check_count c =
    passed_on (AreInputs c.args.names.now (map seen_of c.args.tables.now) (view c.args.table.now)) c.from_residual-in_err-check_count.result _ c.from_residual-in_err-check_count.ensures.1
    (λ memory inputs h. over_limit _ _ _ inputs_limit c.in_ok-entries.ensures.ok h.written c.in_err-check_count.ensures.refused h.within)

pub returns-in_err-push : goal.returns-in_err-push
returns-in_err-push c = passed_on (AreInputs c.args.names.now (map seen_of c.args.tables.now) (view c.args.table.now)) c.from_residual-in_err-push.result _ c.from_residual-in_err-push.ensures.1 (λ memory inputs h. memory refl)

pub offset_bounds-entries-index : goal.offset_bounds-entries-index
offset_bounds-entries-index c = grind (arith, common_steps)
