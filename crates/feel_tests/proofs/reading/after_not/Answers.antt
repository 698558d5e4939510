use Rattle.feel_tests.specs.Words.{Name, Begins}
use Rattle.std.proofs.lemmas.Grind.{common_steps}
use Rattle.std.proofs.Common.{arith, sym, subst, ◌∙◌, List, ℕ}
use Rattle.feel_tests.specs.Grammar.{not_word}
use Rattle.feel_tests.proofs.OneWord.{one_name, number_name}
use Rattle.feel_tests.proofs.SameBytes.{bytes_apart, bytes_same}
use Rattle.feel_tests.proofs.reading.after_not.Goals as goal

pub returns-else-eq-clause-none : goal.returns-else-eq-clause-none
returns-else-eq-clause-none c rest b =
    let one = (one_name c.args.text.now c.in-Name.name.now c.in-Name.rest.now not_word rest c.in-Name.ensures b).0 in
    bytes_apart c.in-Name.name.now c.as_slice.result.now c.eq.result c.eq.ensures c.if-eq.false (one ∙ sym c.as_slice.ensures)

pub returns-in-Number-clause-none : goal.returns-in-Number-clause-none
returns-in-Number-clause-none c rest b =
    number_name c.args.text.now c.in-Number.field-0.now c.in-Number.field-1.now not_word rest c.in-Number.ensures b

pub returns-in-Sign-clause-none : goal.returns-in-Sign-clause-none
returns-in-Sign-clause-none c = grind (arith, common_steps)

pub returns-then-eq-clause-some : goal.returns-then-eq-clause-some
returns-then-eq-clause-some c =
    subst (λ (name : List ℕ). Begins c.args.text.now (Name name) c.in-Name.rest.now) (bytes_same c.in-Name.name.now c.as_slice.result.now c.eq.result c.eq.ensures c.if-eq.true ∙ c.as_slice.ensures) c.in-Name.ensures
