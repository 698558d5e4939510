use Rattle.std.proofs.Common.{arith}
use Rattle.std.proofs.lemmas.Grind.{common_steps}
use Rattle.claim_console.proofs.remarking.add_texts.Goals as goal

pub returns-in_ok-add_records : goal.returns-in_ok-add_records
returns-in_ok-add_records c = grind (arith, common_steps)
