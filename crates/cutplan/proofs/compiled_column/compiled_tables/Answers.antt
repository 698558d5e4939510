use Rattle.std.proofs.lemmas.Grind.{common_steps}
use Rattle.std.proofs.Common.{◌≤◌, length, subst, sym, arith}
use Rattle.cutplan.proofs.Compiling.{more_tables}
use Rattle.cutplan.proofs.compiled_column.compiled_tables.Goals as goal

pub loop-table-preserved : goal.loop-table-preserved
loop-table-preserved c =
    more_tables c.args.plan.now c.args.tables.now c.loop-table.kept _ c.loop-table.table-index c.table-item.result c.in_ok-compiled_columns.field-0 c.loop-table-test.true c.table-item.is c.loop-table.invariant
    c.in_ok-compiled_columns.ensures c.in_ok-push.ensures.ok

pub compiled_columns-requires : goal.compiled_columns-requires
compiled_columns-requires c = subst (λ t. length t.rules ≤ 256) (sym c.table-item.is) (c.requires c.loop-table.table-index c.table-item.result c.loop-table-test.true)

pub returns : goal.returns
returns c = grind (arith, common_steps)
