use Rattle.std.proofs.Common.{arith}
use Rattle.feel_tests.specs.Words.{Sign}
use Rattle.feel_tests.proofs.FirstWord.{word_no_quote}
use Rattle.feel_tests.proofs.OneWord.{sign_number, sign_name}
use Rattle.feel_tests.proofs.word.first_symbol.Goals as goal

pub returns-in-Number-clause-none : goal.returns-in-Number-clause-none
returns-in-Number-clause-none c symbol rest b =
    sign_number c.args.text.now symbol rest c.in-Number.field-0.now c.in-Number.field-1.now b c.in-Number.ensures

pub returns-in-Name-clause-none : goal.returns-in-Name-clause-none
returns-in-Name-clause-none c symbol rest b =
    sign_name c.args.text.now symbol rest c.in-Name.field-0.now c.in-Name.field-1.now b c.in-Name.ensures

pub returns-in-Quote-clause-none : goal.returns-in-Quote-clause-none
returns-in-Quote-clause-none c symbol rest b =
    word_no_quote c.args.text.now (Sign symbol) rest c.in-Quote.field-0.now (λ e. omega (arith, e)) b c.in-Quote.ensures
