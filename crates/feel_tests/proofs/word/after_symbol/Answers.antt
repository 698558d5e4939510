use Rattle.feel_tests.specs.Words.{Sign, Begins}
use Rattle.std.proofs.lemmas.Grind.{common_steps}
use Rattle.std.proofs.Common.{sym, ◌∙◌, arith, subst}
use denote.Enum.Bare.{same_false, same_true}
use Rattle.feel_tests.specs.contracts.symbol.Symbol.{the_type}
use Rattle.feel_tests.proofs.OneWord.{one_sign}
use Rattle.feel_tests.proofs.word.after_symbol.Goals as goal

pub returns-in_err-found-clause-none : goal.returns-in_err-found-clause-none
returns-in_err-found-clause-none c = rw c.from_residual.ensures (λ rest b. c.in_err-found.ensures.none c.args.symbol rest b)

pub returns-else-eq-clause-none : goal.returns-else-eq-clause-none
returns-else-eq-clause-none c rest b =
    let one = one_sign c.args.text.now c.in_ok-found.found c.in_ok-found.rest.now c.args.symbol rest c.in_ok-found.ensures.some b in
    same_false the_type c.in_ok-found.found c.args.symbol (sym c.eq.ensures ∙ c.if-eq.false) one.0

pub returns-in_err-found-clause-some : goal.returns-in_err-found-clause-some
returns-in_err-found-clause-some c = grind (arith, common_steps)

pub returns-then-eq-clause-some : goal.returns-then-eq-clause-some
returns-then-eq-clause-some c =
    subst (λ symbol. Begins c.args.text.now (Sign symbol) c.in_ok-found.rest.now) (same_true the_type tt c.in_ok-found.found c.args.symbol (sym c.eq.ensures ∙ c.if-eq.true)) c.in_ok-found.ensures.some
