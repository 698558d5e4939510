use Rattle.std.proofs.Common.{arith}
use Rattle.std.proofs.lemmas.Grind.{common_steps}
use Rattle.feel_tests.proofs.OneWord.{number_string}
use Rattle.feel_tests.proofs.strings.quoted_at.Goals as goal

pub returns-in-Number-clause-refused : goal.returns-in-Number-clause-refused
returns-in-Number-clause-refused c memory bytes rest b =
    number_string c.args.text.now c.in-Number.field-0.now c.in-Number.field-1.now bytes rest c.in-Number.ensures b

pub returns-in-Sign-clause-refused : goal.returns-in-Sign-clause-refused
returns-in-Sign-clause-refused c = grind (arith, common_steps)

pub returns-in-Name-clause-refused : goal.returns-in-Name-clause-refused
returns-in-Name-clause-refused c = grind (arith, common_steps)
