use Rattle.std.proofs.Common.{ap, sym, ◌∙◌, arith}
use Rattle.std.proofs.lemmas.Grind.{common_steps}
use Rattle.tables.specs.declared.table.Table.{Table}
use Rattle.plan_rows.specs.Readable.{kind_among}
use Rattle.plan_rows.proofs.Readings.{kind_met, kind_missed}
use Rattle.plan_rows.proofs.readable.output_kind.Goals as goal

pub loop-table-preserved : goal.loop-table-preserved
loop-table-preserved c =
    let none = ap (λ (t : Table). kind_among t c.args.name.now) (sym c.table-item.is) ∙ sym c.kind_among.ensures ∙ c.in_default.is in
    sym (kind_missed c.args.tables.now c.loop-table.table-index c.table-item.result c.args.name.now c.loop-table-test.true none) ∙ c.loop-table.invariant

pub returns-in-Some : goal.returns-in-Some
returns-in-Some c =
    let some = ap (λ (t : Table). kind_among t c.args.name.now) (sym c.table-item.is) ∙ sym c.kind_among.ensures ∙ c.in-Some.is in
    sym (kind_met c.args.tables.now c.loop-table.table-index c.table-item.result c.args.name.now _ c.loop-table-test.true some) ∙ c.loop-table.invariant

pub returns : goal.returns
returns c = grind (arith, common_steps)
