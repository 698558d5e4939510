use Rattle.std.proofs.Common.{[], refl, subst}
use Rattle.dtable.specs.PlanFile.{IsTable, AreTables}
use Rattle.dtable.specs.Scope.{seen_of}
use Rattle.dtable.proofs.Entries.{EachAfter-more}
use Rattle.dtable.proofs.ReadTables.{AreTables-none}
use Rattle.std.proofs.lemmas.List.{take_all}
use Rattle.toml.specs.View.{items_view}
use Rattle.dtable.specs.Document.{EachAfter}
use Rattle.dtable.proofs.Exits.{passed_on}
use Rattle.dtable.proofs.reading.table_list.read_table_entries.Goals as goal

pub loop-index-preserved : goal.loop-index-preserved
loop-index-preserved c =
    let new = rw c.as_slice.ensures at c.in_ok-table.ensures in
    rw c.in_ok-push.ensures.ok (EachAfter-more seen_of (IsTable c.args.names.now) [] c.args.entries.now c.loop-index.index c.index-entries-index.result c.loop-index.tables c.in_ok-table.table c.loop-index-test.true c.index-entries-index.is c.loop-index.invariant new)

pub returns-in_err-table : goal.returns-in_err-table
returns-in_err-table c =
    let none = rw c.as_slice.ensures at c.in_err-table.ensures in
    passed_on (AreTables c.args.names.now (items_view c.args.entries.now)) c.from_residual-in_err-table.result _ c.from_residual-in_err-table.ensures.1
    (λ memory tables h. AreTables-none c.text_spells_at_most_one_value.ensures c.args.names.now c.args.entries.now c.loop-index.index c.index-entries-index.result c.loop-index.tables tables c.loop-index-test.true c.index-entries-index.is c.loop-index.invariant (none memory) h)

pub returns-in_err-push : goal.returns-in_err-push
returns-in_err-push c = passed_on (AreTables c.args.names.now (items_view c.args.entries.now)) c.from_residual-in_err-push.result _ c.from_residual-in_err-push.ensures.1 (λ memory tables h. memory refl)

pub returns : goal.returns
returns c = record {
  within = c.in_ok-check_count.ensures.ok;
  each = subst (λ read. EachAfter seen_of (IsTable c.args.names.now) [] (items_view read) c.loop-index.tables) (take_all c.loop-index.index c.args.entries.now c.loop-index-test.false) c.loop-index.invariant;
}

pub loop-index-init : goal.loop-index-init
loop-index-init c = rw c.new-tables.ensures tt

pub bounds-entries-index : goal.bounds-entries-index
bounds-entries-index c = c.loop-index-test.true

pub returns-in_err-check_count : goal.returns-in_err-check_count
returns-in_err-check_count c = passed_on (AreTables c.args.names.now (items_view c.args.entries.now)) c.from_residual.result _ c.from_residual.ensures.1 (λ memory tables h. c.in_err-check_count.ensures.refused h.within)
