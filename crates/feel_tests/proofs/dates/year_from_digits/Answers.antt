use Rattle.std.proofs.Common.{◌/◌, ◌%◌, arith}
use Rattle.std.proofs.lemmas.Grind.{common_steps}
use Rattle.feel_tests.proofs.OneDate.{year_found}
use Rattle.feel_tests.proofs.dates.year_from_digits.Goals as goal

pub returns-clause-some : goal.returns-clause-some
returns-clause-some c =
    let century = c.in_ok-century.ensures.some in
    let rest = c.in_ok-rest.ensures.some in
    year_found c.in_ok-century.century c.in_ok-rest.rest c.args.y3 c.args.y2 c.args.y1 c.args.y0 (grind (arith, common_steps)) century.0 rest.0 century.1 century.2 rest.1 rest.2

pub returns-then-rest-eq0-clause-none : goal.returns-then-rest-eq0-clause-none
returns-then-rest-eq0-clause-none c = grind (arith, common_steps)

pub returns-in_err-rest-clause-none : goal.returns-in_err-rest-clause-none
returns-in_err-rest-clause-none c =
    rw c.from_residual-in_err-rest.ensures (λ year h. c.in_err-rest.ensures.none (year % 100) (omega arith) (h.tens, h.ones))

pub returns-in_err-rest-clause-some : goal.returns-in_err-rest-clause-some
returns-in_err-rest-clause-some c = rw c.from_residual-in_err-rest.ensures tt

pub returns-in_err-century-clause-none : goal.returns-in_err-century-clause-none
returns-in_err-century-clause-none c =
    rw c.from_residual.ensures (λ year h. let range = h.year_in in c.in_err-century.ensures.none (year / 100) (omega (arith, range.1)) (h.thousands, h.hundreds))

pub returns-in_err-century-clause-some : goal.returns-in_err-century-clause-some
returns-in_err-century-clause-some c = rw c.from_residual.ensures tt

pub overflow_add-result : goal.overflow_add-result
overflow_add-result c = grind (arith, common_steps)

pub overflow_cast-result : goal.overflow_cast-result
overflow_cast-result c = grind (arith, common_steps)

pub overflow_cast-result-2 : goal.overflow_cast-result-2
overflow_cast-result-2 c = grind (arith, common_steps)

pub overflow_mul-result : goal.overflow_mul-result
overflow_mul-result c = grind (arith, common_steps)
