use Rattle.std.proofs.Common.{arith}
use Rattle.std.proofs.lemmas.Grind.{common_steps}
use Rattle.commands.proofs.asked.place_in.Goals as goal

pub returns-in_err-number_in-clause-given : goal.returns-in_err-number_in-clause-given
returns-in_err-number_in-clause-given c = grind (arith, common_steps)

pub returns-in_err-number_in-2-clause-given : goal.returns-in_err-number_in-2-clause-given
returns-in_err-number_in-2-clause-given c = grind (arith, common_steps)

pub returns-in_err-file-clause-given : goal.returns-in_err-file-clause-given
returns-in_err-file-clause-given c = grind (arith, common_steps)

pub returns-in_err-file-clause-none : goal.returns-in_err-file-clause-none
returns-in_err-file-clause-none c = grind (arith, common_steps)
