use Rattle.std.proofs.Common.{arith}
use Rattle.dtable.proofs.ReadNames.{is_among_taken}
use Rattle.dtable.proofs.reading.scope.is_taken.Goals as goal

pub returns-then-is_reserved : goal.returns-then-is_reserved
returns-then-is_reserved c = grind (arith, is_among_taken)

pub returns-then-is_data : goal.returns-then-is_data
returns-then-is_data c = grind (arith, is_among_taken)

pub returns-else-is_data : goal.returns-else-is_data
returns-else-is_data c = grind (arith, is_among_taken)
