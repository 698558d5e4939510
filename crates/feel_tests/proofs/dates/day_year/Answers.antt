use Rattle.std.proofs.lemmas.Grind.{common_steps}
use Rattle.std.proofs.Common.{rules, arith}
use Rattle.feel_tests.proofs.DayText.{date_year_is, year_within}
use Rattle.feel_tests.proofs.dates.day_year.Goals as goal

pub returns-clause-year : goal.returns-clause-year
returns-clause-year c = search (rules, date_year_is, year_within)

pub returns-clause-in_range : goal.returns-clause-in_range
returns-clause-in_range c = search (rules, date_year_is, year_within)

pub unreachable-requires : goal.unreachable-requires
unreachable-requires c = grind (arith, common_steps)
