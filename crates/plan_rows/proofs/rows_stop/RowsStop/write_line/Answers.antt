use Rattle.std.proofs.Common.{arith}
use Rattle.std.proofs.lemmas.Grind.{common_steps}
use Rattle.plan_rows.proofs.rows_stop.RowsStop.write_line.Goals as goal

pub put_rows_fault-requires : goal.put_rows_fault-requires
put_rows_fault-requires c = grind (arith, common_steps)
