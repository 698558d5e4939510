use Rattle.std.proofs.Common.{rules}
use Rattle.feel_tests.proofs.PlainValues.{no_number}
use Rattle.feel_tests.proofs.plain.plain_number.Goals as goal

pub returns-in-Err-clause-refused : goal.returns-in-Err-clause-refused
returns-in-Err-clause-refused c memory = no_number c.args.text.now c.in-Err.ensures.refused

pub returns-in-Ok-clause-refused : goal.returns-in-Ok-clause-refused
returns-in-Ok-clause-refused c = search rules
