use Rattle.std.proofs.Common.{arith}
use Rattle.dtable.proofs.ReadNames.{is_among_fields}
use Rattle.dtable.proofs.reading.scope.is_taken_field.Goals as goal

pub returns-then-is_taken_from_start : goal.returns-then-is_taken_from_start
returns-then-is_taken_from_start c = grind (arith, is_among_fields)

pub returns-else-is_taken_from_start : goal.returns-else-is_taken_from_start
returns-else-is_taken_from_start c = grind (arith, is_among_fields)
