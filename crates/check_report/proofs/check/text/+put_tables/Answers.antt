use Rattle.std.proofs.Common.{◌+◌, arith}
use Rattle.fixpoint.specs.BufferedOut.{at}
use Rattle.check_report.proofs.Piecewise.{puts-no-tables, puts-tables}
use Rattle.check_report.proofs.check.text.+put_tables.Goals as goal

pub returns-in-Some : goal.returns-in-Some
returns-in-Some g m c =
    puts-tables (at _ _ c.args.pieces.now) (at _ _ c.put_table.new.pieces) (at _ _ c.put_tables.new.pieces) (c.args.place + 1) c.in-Some.table.now c.in-Some.more.now c.args.tables.now c.in-Some.ensures.cases.0
    (rw c.at.ensures at c.put_table.ensures) c.put_tables.ensures

pub returns-in-None : goal.returns-in-None
returns-in-None g m c = puts-no-tables (at _ _ c.args.pieces.now) (c.args.place + 1) c.args.tables.now (omega (arith, c.in-None.ensures.cases))
