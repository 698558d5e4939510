use Rattle.std.proofs.Common.{refl, subst}
use Rattle.dtable.specs.NameForm.{names_taken}
use Rattle.dtable.specs.PlanFile.{IsField, AreFields}
use Rattle.dtable.proofs.Entries.{EachAfter-more, EachAfter-none}
use Rattle.dtable.proofs.ReadParts.{IsField-name}
use Rattle.std.proofs.lemmas.List.{take_all}
use Rattle.toml.specs.View.{items_view}
use Rattle.dtable.specs.Document.{EachAfter}
use Rattle.dtable.proofs.Exits.{passed_on}
use Rattle.dtable.proofs.reading.names.read_fields.Goals as goal

pub loop-index-preserved : goal.loop-index-preserved
loop-index-preserved c =
    let new = rw c.as_slice.ensures at c.in_ok-field.ensures in
    rw c.in_ok-push.ensures.ok (EachAfter-more (λ f. f.name) IsField (names_taken c.args.families) c.args.entries.now c.loop-index.index c.index-entries-index.result c.loop-index.fields c.in_ok-field.field c.loop-index-test.true c.index-entries-index.is c.loop-index.invariant new)

pub returns-in_err-field : goal.returns-in_err-field
returns-in_err-field c =
    let none = rw c.as_slice.ensures at c.in_err-field.ensures in
    passed_on (AreFields c.args.families (items_view c.args.entries.now)) c.from_residual-in_err-field.result _ c.from_residual-in_err-field.ensures.1
    (λ memory fields h. EachAfter-none (λ f. f.name) IsField IsField-name (names_taken c.args.families) c.args.entries.now c.loop-index.index c.index-entries-index.result c.loop-index.fields fields c.loop-index-test.true c.index-entries-index.is c.loop-index.invariant (none memory) h.each)

pub returns : goal.returns
returns c = record {
  within = c.in_ok-check_count.ensures.ok;
  each = subst (λ read. EachAfter (λ f. f.name) IsField (names_taken c.args.families) (items_view read) c.loop-index.fields) (take_all c.loop-index.index c.args.entries.now c.loop-index-test.false) c.loop-index.invariant;
}

pub loop-index-init : goal.loop-index-init
loop-index-init c = rw c.new-fields.ensures tt

pub bounds-entries-index : goal.bounds-entries-index
bounds-entries-index c = c.loop-index-test.true

pub returns-in_err-push : goal.returns-in_err-push
returns-in_err-push c = passed_on (AreFields c.args.families (items_view c.args.entries.now)) c.from_residual-in_err-push.result _ c.from_residual-in_err-push.ensures.1 (λ memory fields h. memory refl)

pub returns-in_err-check_count : goal.returns-in_err-check_count
returns-in_err-check_count c = passed_on (AreFields c.args.families (items_view c.args.entries.now)) c.from_residual.result _ c.from_residual.ensures.1 (λ memory fields h. c.in_err-check_count.ensures.refused h.within)
