use Rattle.feel_tests.proofs.PlainValues.{no_day}
use Rattle.feel_tests.proofs.plain.plain_day.Goals as goal

pub returns-in-None-clause-refused : goal.returns-in-None-clause-refused
returns-in-None-clause-refused c memory = no_day c.args.text.now c.in-None.ensures.none
