use Rattle.std.proofs.Common.{rules, arith}
use Rattle.std.proofs.lemmas.Grind.{common_steps}
use Rattle.journal.proofs.phase.Phase.next_phase.Goals as goal

pub returns-in_default : goal.returns-in_default
returns-in_default c = search rules

pub returns-in-Decided : goal.returns-in-Decided
returns-in-Decided c = grind (arith, common_steps)
