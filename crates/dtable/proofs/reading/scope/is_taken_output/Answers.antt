use Rattle.std.proofs.Common.{arith}
use Rattle.dtable.proofs.ReadNames.{is_among_outputs}
use Rattle.dtable.proofs.reading.scope.is_taken_output.Goals as goal

pub returns-then-is_taken : goal.returns-then-is_taken
returns-then-is_taken c = grind (arith, is_among_outputs)

pub returns-else-is_taken : goal.returns-else-is_taken
returns-else-is_taken c = grind (arith, is_among_outputs)
