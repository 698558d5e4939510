use Rattle.std.proofs.Common.{arith}
use Rattle.std.proofs.lemmas.Grind.{common_steps}
use Rattle.feel_tests.proofs.plain.read_plain.Goals as goal

pub returns-in-Number-clause-refused : goal.returns-in-Number-clause-refused
returns-in-Number-clause-refused c = rw c.in-Number.is (rw c.as_bytes.ensures.value at c.plain_number.ensures.refused)

pub returns-in-Text-clause-refused : goal.returns-in-Text-clause-refused
returns-in-Text-clause-refused c = rw c.in-Text.is c.plain_text.ensures.refused

pub returns-in-Flag-clause-refused : goal.returns-in-Flag-clause-refused
returns-in-Flag-clause-refused c = rw c.in-Flag.is c.plain_flag.ensures.refused

pub returns-in-Day-clause-kind : goal.returns-in-Day-clause-kind
returns-in-Day-clause-kind c = grind (arith, common_steps)

pub returns-in-Number-clause-kind : goal.returns-in-Number-clause-kind
returns-in-Number-clause-kind c = grind (arith, common_steps)

pub returns-in-Day-clause-ok : goal.returns-in-Day-clause-ok
returns-in-Day-clause-ok c = rw c.in-Day.is (rw c.as_bytes-in-Day.ensures.value at c.plain_day.ensures.ok)

pub returns-in-Number-clause-ok : goal.returns-in-Number-clause-ok
returns-in-Number-clause-ok c = rw c.in-Number.is (rw c.as_bytes.ensures.value at c.plain_number.ensures.ok)

pub returns-in-Text-clause-kind : goal.returns-in-Text-clause-kind
returns-in-Text-clause-kind c = grind (arith, common_steps)

pub returns-in-Flag-clause-kind : goal.returns-in-Flag-clause-kind
returns-in-Flag-clause-kind c = grind (arith, common_steps)

pub returns-in-Text-clause-ok : goal.returns-in-Text-clause-ok
returns-in-Text-clause-ok c = rw c.in-Text.is c.plain_text.ensures.ok

pub returns-in-Flag-clause-ok : goal.returns-in-Flag-clause-ok
returns-in-Flag-clause-ok c = rw c.in-Flag.is c.plain_flag.ensures.ok

pub returns-in-Day-clause-refused : goal.returns-in-Day-clause-refused
returns-in-Day-clause-refused c = rw c.in-Day.is (rw c.as_bytes-in-Day.ensures.value at c.plain_day.ensures.refused)
