use Rattle.std.proofs.lemmas.Grind.{common_steps}
use Rattle.std.proofs.Common.{arith}
use Rattle.intake_csv.proofs.claim.claim_columns.Goals as goal

pub returns : goal.returns
returns c = grind (arith, common_steps)
