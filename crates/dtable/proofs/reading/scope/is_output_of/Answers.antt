use Rattle.std.proofs.Common.{refl, sym, ◌∙◌}
use Rattle.tables.specs.declared.table.Table.{Table}
use Rattle.dtable.specs.NameForm.{is_among}
use Rattle.dtable.specs.Scope.{output_names}
use Rattle.dtable.proofs.ReadNames.{is_among-tables}
use Rattle.tables.proofs.Searches.{any_more, any_found, any_missing}
use Rattle.dtable.proofs.reading.scope.is_output_of.Goals as goal

pub loop-table-init : goal.loop-table-init
loop-table-init c = refl

pub loop-table-preserved : goal.loop-table-preserved
loop-table-preserved c =
    let tested = rw c.as_slice.ensures at c.is_output.ensures in
    any_more (λ (t : Table). is_among c.args.name.now (output_names t.outputs)) c.args.tables.now c.loop-table.table-index c.table-item.result c.loop-table-test.true c.table-item.is c.loop-table.invariant (sym tested ∙ c.if-is_output.false)

pub returns-then-is_output : goal.returns-then-is_output
returns-then-is_output c =
    let tested = rw c.as_slice.ensures at c.is_output.ensures in
    any_found (λ (t : Table). is_among c.args.name.now (output_names t.outputs)) c.args.tables.now c.loop-table.table-index c.table-item.result c.loop-table-test.true c.table-item.is (sym tested ∙ c.if-is_output.true)
    ∙ is_among-tables c.args.name.now c.args.tables.now

pub returns : goal.returns
returns c =
    any_missing (λ (t : Table). is_among c.args.name.now (output_names t.outputs)) c.args.tables.now c.loop-table.table-index c.loop-table-test.false c.loop-table.invariant
    ∙ is_among-tables c.args.name.now c.args.tables.now
