use Rattle.std.proofs.Common.{[], refl, subst}
use Rattle.dtable.proofs.ReadTables.{ArePriorities-more, ArePriorities-none}
use Rattle.std.proofs.lemmas.List.{take_all}
use Rattle.toml.specs.View.{items_view}
use Rattle.dtable.specs.Document.{EachAfter}
use Rattle.dtable.specs.PlanFile.{IsPriority, ArePriorityEntries}
use Rattle.dtable.proofs.Exits.{passed_on}
use Rattle.dtable.proofs.reading.outputs.read_priority_entries.Goals as goal

pub loop-entry-preserved : goal.loop-entry-preserved
loop-entry-preserved c =
    let new = rw c.as_slice.ensures at c.in_ok-value.ensures in
    rw c.in_ok-push.ensures.ok (ArePriorities-more c.args.kind c.args.entries.now c.loop-entry.entry-index c.entry-item.result c.loop-entry.list c.in_ok-value.value c.loop-entry-test.true c.entry-item.is c.loop-entry.invariant new)

pub returns-in_err-value : goal.returns-in_err-value
returns-in_err-value c =
    let none = rw c.as_slice.ensures at c.in_err-value.ensures in
    passed_on (ArePriorityEntries c.args.kind (items_view c.args.entries.now)) c.from_residual-in_err-value.result _ c.from_residual-in_err-value.ensures.1
    (λ memory more h. ArePriorities-none c.text_spells_at_most_one_value.ensures c.args.kind c.args.entries.now c.loop-entry.entry-index c.entry-item.result c.loop-entry.list more c.loop-entry-test.true c.entry-item.is c.loop-entry.invariant (none memory) h)

pub returns : goal.returns
returns c = record {
  within = c.in_ok-check_count.ensures.ok;
  each = subst (λ read. EachAfter (λ x. x) (IsPriority c.args.kind) [] (items_view read) c.loop-entry.list) (take_all c.loop-entry.entry-index c.args.entries.now c.loop-entry-test.false) c.loop-entry.invariant;
}

pub loop-entry-init : goal.loop-entry-init
loop-entry-init c = rw c.new-list.ensures tt

pub returns-in_err-push : goal.returns-in_err-push
returns-in_err-push c = passed_on (ArePriorityEntries c.args.kind (items_view c.args.entries.now)) c.from_residual-in_err-push.result _ c.from_residual-in_err-push.ensures.1 (λ memory list h. memory refl)

pub returns-in_err-check_count : goal.returns-in_err-check_count
returns-in_err-check_count c = passed_on (ArePriorityEntries c.args.kind (items_view c.args.entries.now)) c.from_residual.result _ c.from_residual.ensures.1 (λ memory list h. c.in_err-check_count.ensures.refused h.within)
