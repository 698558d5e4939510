use Rattle.std.proofs.lemmas.Grind.{common_steps}
use Rattle.std.proofs.Common.{arith}
use Rattle.std.proofs.lemmas.List.{take_all}
use Rattle.intake_csv.proofs.header.find_columns.Goals as goal

pub returns-then-found-clause-fault : goal.returns-then-found-clause-fault
returns-then-found-clause-fault c =
    let all = take_all c.loop-column.column-index c.args.needed.now c.loop-column-test.false in
    (rw all at c.loop-column.invariant.all, rw all at (c.loop-column.invariant.repeats c.if-found.true))

pub loop-column-preserved : goal.loop-column-preserved
loop-column-preserved c = grind (arith, common_steps)
