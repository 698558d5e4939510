use Rattle.std.proofs.Common.{arith}
use Rattle.std.proofs.lemmas.Grind.{common_steps}
use Rattle.plan_rows.proofs.plain.PlainSpellingValue.append.Goals as goal

pub returns-in-Text : goal.returns-in-Text
returns-in-Text c = grind (arith, common_steps)
