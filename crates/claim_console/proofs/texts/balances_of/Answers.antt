use Rattle.std.proofs.Common.{arith}
use Rattle.std.proofs.lemmas.Grind.{common_steps}
use Rattle.claim_console.proofs.texts.balances_of.Goals as goal

pub read_or_report-requires-text-name : goal.read_or_report-requires-text-name
read_or_report-requires-text-name c = grind (arith, common_steps)

pub returns-in-Err-clause-failed : goal.returns-in-Err-clause-failed
returns-in-Err-clause-failed c = grind (arith, common_steps)

pub returns-in_default-clause-named : goal.returns-in_default-clause-named
returns-in_default-clause-named c = grind (arith, common_steps)

pub returns-in-Ok-clause-named : goal.returns-in-Ok-clause-named
returns-in-Ok-clause-named c = grind (arith, common_steps)
