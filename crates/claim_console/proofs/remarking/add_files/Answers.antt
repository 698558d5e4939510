use Rattle.std.proofs.Common.{arith}
use Rattle.std.proofs.lemmas.Grind.{common_steps, elements}
use Rattle.claim_console.proofs.remarking.add_files.Goals as goal

pub returns-clause-closed : goal.returns-clause-closed
returns-clause-closed c = grind (arith, elements)

pub loop-place-preserved : goal.loop-place-preserved
loop-place-preserved c = grind (arith, common_steps)
