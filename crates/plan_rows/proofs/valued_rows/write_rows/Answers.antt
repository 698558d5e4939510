use Rattle.std.proofs.Common.{arith}
use Rattle.std.proofs.lemmas.Grind.{common_steps}
use Rattle.csv.specs.Records.{fields_of}
use Rattle.plan_rows.proofs.RowTexts.{all_written, none_written, one_more_written}
use Rattle.plan_rows.proofs.valued_rows.write_rows.Goals as goal

pub loop-init : goal.loop-init
loop-init c = λ rows text left has. none_written _ _ rows text _ _ left has

pub loop-preserved : goal.loop-preserved
loop-preserved c = λ rows text left has.
    let reads = rw c.if-not-branch.false at c.in_ok-read_record.ensures in
    one_more_written _ _ rows text _ _ _ _ _ _ (c.loop.invariant rows text left has) reads c.in_ok-fill_line.ensures c.in_ok-write_line.ensures

pub returns-then-not-branch : goal.returns-then-not-branch
returns-then-not-branch c = λ rows text left has.
    let reads = rw c.if-not-branch.true at c.in_ok-read_record.ensures in
    all_written _ _ rows text _ _ c.read_record.new.reader (fields_of c.read_record.new.row) (c.loop.invariant rows text left has) reads

pub same-row : goal.same-row
same-row c = grind (arith, common_steps)

pub fill_line-requires-clause-needed : goal.fill_line-requires-clause-needed
fill_line-requires-clause-needed c = grind (arith, common_steps)

pub fill_line-requires-clause-apart : goal.fill_line-requires-clause-apart
fill_line-requires-clause-apart c = grind (arith, common_steps)

pub fill_line-requires-clause-placed : goal.fill_line-requires-clause-placed
fill_line-requires-clause-placed c = grind (arith, common_steps)
