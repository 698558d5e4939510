use Rattle.std.proofs.lemmas.Grind.{common_steps}
use Rattle.std.proofs.Common.{arith}
use Rattle.feel_tests.proofs.ReadBack.{day_back, flag_back, number_back}
use Rattle.feel_tests.proofs.law.literal_spells_its_value.Goals as goal

pub returns-in-Number : goal.returns-in-Number
returns-in-Number c =
    rw c.in-Number.is (number_back c.shortest_text_denotes.ensures _ _ c.units-units.ensures.value c.units-units.ensures.in_range)

pub returns-in-Flag : goal.returns-in-Flag
returns-in-Flag c = rw c.in-Flag.is (flag_back _)

pub returns-in-Day : goal.returns-in-Day
returns-in-Day c = rw c.in-Day.is (day_back c.date_of-date.result _ c.date_of-date.ensures.date c.date_of-date.ensures.in_range)

pub returns-in-Text : goal.returns-in-Text
returns-in-Text c = grind (arith, common_steps)
