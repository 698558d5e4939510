use Rattle.std.proofs.Common.{rules}
use Rattle.tables.proofs.evaluation.answers_by_hit.Goals as goal

pub returns-in-P : goal.returns-in-P
returns-in-P c = search rules
