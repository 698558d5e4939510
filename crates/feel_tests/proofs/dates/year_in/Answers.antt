use Rattle.std.proofs.Common.{arith}
use Rattle.std.proofs.lemmas.Grind.{common_steps}
use Rattle.feel_tests.proofs.OneDate.{years_read, years_apart}
use Rattle.feel_tests.proofs.dates.year_in.Goals as goal

pub returns-clause-some : goal.returns-clause-some
returns-clause-some c = years_read c.args.text.now c.year_from_digits.result (grind (arith, common_steps)) c.year_from_digits.ensures.some

pub returns-clause-none : goal.returns-clause-none
returns-clause-none c = years_apart c.args.text.now c.year_from_digits.result c.year_from_digits.ensures.none

pub returns-in_default-2-clause-none : goal.returns-in_default-2-clause-none
returns-in_default-2-clause-none c = grind (arith, common_steps)

pub returns-in_default-clause-none : goal.returns-in_default-clause-none
returns-in_default-clause-none c = grind (arith, common_steps)

pub bounds-text-3 : goal.bounds-text-3
bounds-text-3 c = grind (arith, common_steps)

pub bounds-text-2 : goal.bounds-text-2
bounds-text-2 c = grind (arith, common_steps)

pub bounds-text-1 : goal.bounds-text-1
bounds-text-1 c = grind (arith, common_steps)

pub bounds-text-0 : goal.bounds-text-0
bounds-text-0 c = grind (arith, common_steps)
