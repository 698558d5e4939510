use Rattle.std.proofs.Common.{arith}
use Rattle.std.proofs.lemmas.Grind.{common_steps}
use Rattle.explanation.proofs.record.push_id_columns.Goals as goal

pub day_year-requires : goal.day_year-requires
day_year-requires c = grind (arith, common_steps)
