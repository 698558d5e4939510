use Rattle.std.proofs.Common.{arith}
use Rattle.std.proofs.lemmas.Grind.{elements}
use Rattle.plan_rows.proofs.judging.unread_row.Goals as goal

pub returns : goal.returns
returns c = grind (arith, elements)
