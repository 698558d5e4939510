use Rattle.std.proofs.Common.{arith}
use Rattle.fixpoint.specs.BufferedOut.{at}
use Rattle.check_report.proofs.Piecewise.{puts-cell, puts-no-cell}
use Rattle.check_report.proofs.check.text.+put_cell.Goals as goal

pub returns-in-Some : goal.returns-in-Some
returns-in-Some g m c =
    puts-cell (at _ _ c.args.pieces.now) (at _ _ c.put.new.self) (at _ _ c.put_cell.new.pieces) c.in-Some.column.now c.in-Some.more.now c.args.columns.now c.args.place c.max-following.result c.region.result.now
    c.in-Some.ensures.cases.0 c.max-following.ensures c.region.ensures c.put.ensures.puts c.put_cell.ensures

pub returns-in-None : goal.returns-in-None
returns-in-None g m c = puts-no-cell (at _ _ c.args.pieces.now) c.args.columns.now c.args.place (omega (arith, c.in-None.ensures.cases))
