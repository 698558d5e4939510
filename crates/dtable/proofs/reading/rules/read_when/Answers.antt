use Rattle.std.proofs.lemmas.Grind.{common_steps}
use Rattle.std.proofs.Common.{arith, codes, refl, map, ◌+◌, ◌<◌, take, sym, subst}
use Rattle.toml.specs.View.{view, items_view}
use Rattle.dtable.specs.PlanFile.{IsCellUnder, IsRow}
use Rattle.dtable.specs.Scope.{seen_of}
use Rattle.dtable.proofs.Entries.{EachUnder-more}
use Rattle.dtable.proofs.ReadTables.{IsRow-none, IsRow-length, IsRow-read}
use Rattle.dtable.specs.Document.{EachUnder}
use Rattle.dtable.proofs.Exits.{passed_on}
use Rattle.dtable.proofs.reading.rules.read_when.Goals as goal

pub returns-in_err-entries : goal.returns-in_err-entries
returns-in_err-entries c =
    passed_on (IsRow (IsCellUnder c.args.names.now (map seen_of c.args.tables.now)) c.args.inputs.now (codes "when") (view c.args.rule.now)) c.from_residual.result _ c.from_residual.ensures.1
    (λ memory. IsRow-length (IsCellUnder c.args.names.now (map seen_of c.args.tables.now)) c.args.inputs.now (codes "when") (view c.args.rule.now) _ refl c.in_err-entries.ensures.refused)

pub loop-index-preserved : goal.loop-index-preserved
loop-index-preserved c =
    let columns = c.args.inputs.now in
    let entries = c.in_ok-entries.entries.now in
    let i = c.loop-index.index in
    let within = subst (λ n. i < n) c.in_ok-entries.ensures.columns c.loop-index-test.true in
    subst (λ row. EachUnder (IsCellUnder c.args.names.now (map seen_of c.args.tables.now)) (take (i + 1) columns) (items_view (take (i + 1) entries)) row) (sym c.in_ok-push.ensures.ok)
    (EachUnder-more (IsCellUnder c.args.names.now (map seen_of c.args.tables.now)) columns c.index-inputs-index.result entries c.index-entries-index.result i c.loop-index.cells c.in_ok-cell.cell within c.index-inputs-index.is c.loop-index-test.true c.index-entries-index.is c.loop-index.invariant c.in_ok-cell.ensures)

pub returns-in_err-cell : goal.returns-in_err-cell
returns-in_err-cell c =
    passed_on (IsRow (IsCellUnder c.args.names.now (map seen_of c.args.tables.now)) c.args.inputs.now (codes "when") (view c.args.rule.now)) c.from_residual-in_err-cell.result _ c.from_residual-in_err-cell.ensures.1
    (λ memory. IsRow-none (IsCellUnder c.args.names.now (map seen_of c.args.tables.now)) c.args.inputs.now c.index-inputs-index.result (codes "when") (view c.args.rule.now) c.in_ok-entries.entries.now c.index-entries-index.result c.loop-index.index
    c.in_ok-entries.ensures.ok c.in_ok-entries.ensures.columns c.index-inputs-index.is c.loop-index-test.true c.index-entries-index.is (c.in_err-cell.ensures memory))

pub returns : goal.returns
returns c = IsRow-read (IsCellUnder c.args.names.now (map seen_of c.args.tables.now)) c.args.inputs.now (codes "when") (view c.args.rule.now) c.in_ok-entries.entries.now c.loop-index.index c.loop-index.cells c.in_ok-entries.ensures.ok c.in_ok-entries.ensures.columns c.loop-index-test.false c.loop-index.invariant

pub loop-index-init : goal.loop-index-init
loop-index-init c = rw c.new-cells.ensures tt

pub bounds-entries-index : goal.bounds-entries-index
bounds-entries-index c = c.loop-index-test.true

pub bounds-inputs-index : goal.bounds-inputs-index
bounds-inputs-index c = subst (λ n. c.loop-index.index < n) c.in_ok-entries.ensures.columns c.loop-index-test.true

pub returns-in_err-push : goal.returns-in_err-push
returns-in_err-push c = passed_on (IsRow (IsCellUnder c.args.names.now (map seen_of c.args.tables.now)) c.args.inputs.now (codes "when") (view c.args.rule.now)) c.from_residual-in_err-push.result _ c.from_residual-in_err-push.ensures.1 (λ memory row h. memory refl)

pub offset_bounds-inputs-index : goal.offset_bounds-inputs-index
offset_bounds-inputs-index c = grind (arith, common_steps)

pub offset_bounds-entries-index : goal.offset_bounds-entries-index
offset_bounds-entries-index c = grind (arith, common_steps)
