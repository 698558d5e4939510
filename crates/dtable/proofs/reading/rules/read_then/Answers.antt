use Rattle.std.proofs.lemmas.Grind.{common_steps}
use Rattle.std.proofs.Common.{arith, codes, refl, ◌+◌, ◌<◌, take, sym, subst}
use Rattle.toml.specs.View.{view, items_view}
use Rattle.dtable.specs.PlanFile.{IsEntry, IsRow}
use Rattle.dtable.proofs.Entries.{EachUnder-more}
use Rattle.dtable.proofs.ReadTables.{IsRow-none, IsRow-length, IsRow-read}
use Rattle.dtable.specs.Document.{EachUnder}
use Rattle.dtable.proofs.Exits.{passed_on}
use Rattle.dtable.proofs.reading.rules.read_then.Goals as goal

pub returns-in_err-entries : goal.returns-in_err-entries
returns-in_err-entries c =
    passed_on (IsRow IsEntry c.args.outputs.now (codes "then") (view c.args.rule.now)) c.from_residual.result _ c.from_residual.ensures.1
    (λ memory. IsRow-length IsEntry c.args.outputs.now (codes "then") (view c.args.rule.now) _ refl c.in_err-entries.ensures.refused)

pub loop-index-preserved : goal.loop-index-preserved
loop-index-preserved c =
    let columns = c.args.outputs.now in
    let entries = c.in_ok-entries.entries.now in
    let i = c.loop-index.index in
    let within = subst (λ n. i < n) c.in_ok-entries.ensures.columns c.loop-index-test.true in
    subst (λ row. EachUnder IsEntry (take (i + 1) columns) (items_view (take (i + 1) entries)) row) (sym c.in_ok-push.ensures.ok)
    (EachUnder-more IsEntry columns c.index-outputs-index.result entries c.index-entries-index.result i c.loop-index.literals c.in_ok-literal.literal within c.index-outputs-index.is c.loop-index-test.true c.index-entries-index.is c.loop-index.invariant c.in_ok-literal.ensures)

pub returns-in_err-literal : goal.returns-in_err-literal
returns-in_err-literal c =
    passed_on (IsRow IsEntry c.args.outputs.now (codes "then") (view c.args.rule.now)) c.from_residual-in_err-literal.result _ c.from_residual-in_err-literal.ensures.1
    (λ memory. IsRow-none IsEntry c.args.outputs.now c.index-outputs-index.result (codes "then") (view c.args.rule.now) c.in_ok-entries.entries.now c.index-entries-index.result c.loop-index.index
    c.in_ok-entries.ensures.ok c.in_ok-entries.ensures.columns c.index-outputs-index.is c.loop-index-test.true c.index-entries-index.is (c.in_err-literal.ensures memory))

pub returns : goal.returns
returns c = IsRow-read IsEntry c.args.outputs.now (codes "then") (view c.args.rule.now) c.in_ok-entries.entries.now c.loop-index.index c.loop-index.literals c.in_ok-entries.ensures.ok c.in_ok-entries.ensures.columns c.loop-index-test.false c.loop-index.invariant

pub loop-index-init : goal.loop-index-init
loop-index-init c = rw c.new-literals.ensures tt

pub bounds-entries-index : goal.bounds-entries-index
bounds-entries-index c = c.loop-index-test.true

pub bounds-outputs-index : goal.bounds-outputs-index
bounds-outputs-index c = subst (λ n. c.loop-index.index < n) c.in_ok-entries.ensures.columns c.loop-index-test.true

pub returns-in_err-push : goal.returns-in_err-push
returns-in_err-push c = passed_on (IsRow IsEntry c.args.outputs.now (codes "then") (view c.args.rule.now)) c.from_residual-in_err-push.result _ c.from_residual-in_err-push.ensures.1 (λ memory row h. memory refl)

pub offset_bounds-outputs-index : goal.offset_bounds-outputs-index
offset_bounds-outputs-index c = grind (arith, common_steps)

pub overflow_add-inputs : goal.overflow_add-inputs
overflow_add-inputs c = grind (arith, common_steps)

pub at-requires : goal.at-requires
at-requires c = grind (arith, common_steps)

pub offset_bounds-entries-index : goal.offset_bounds-entries-index
offset_bounds-entries-index c = grind (arith, common_steps)
