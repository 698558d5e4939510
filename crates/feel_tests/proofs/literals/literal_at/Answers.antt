use Rattle.feel_tests.proofs.OneTest.{literal_no_sign}
use Rattle.feel_tests.proofs.Denials.{literal_nothing}
use Rattle.feel_tests.proofs.literals.literal_at.Goals as goal

pub returns-in-Sign-clause-refused : goal.returns-in-Sign-clause-refused
returns-in-Sign-clause-refused c memory value rest h =
    literal_no_sign c.args.kind c.args.text.now value rest c.in-Sign.field-0 c.in-Sign.field-1.now c.in-Sign.ensures h

pub returns-in-Nothing-clause-refused : goal.returns-in-Nothing-clause-refused
returns-in-Nothing-clause-refused c memory = literal_nothing c.args.kind c.args.text.now c.in-Nothing.ensures
