use Rattle.std.proofs.Common.{arith}
use Rattle.std.proofs.lemmas.Grind.{common_steps}
use Rattle.explanation.proofs.settlement_steps.verdict_text.Goals as goal

pub returns-in_ok-extend_from_slice-in-Pended : goal.returns-in_ok-extend_from_slice-in-Pended
returns-in_ok-extend_from_slice-in-Pended c = grind (arith, common_steps)
