use Rattle.std.proofs.Common.{inr, rules}
use Rattle.std.proofs.lemmas.Result.{IfErr-weaker}
use Rattle.value_command.proofs.files.plan_of.Goals as goal

pub returns-in-Some-clause-named : goal.returns-in-Some-clause-named
returns-in-Some-clause-named g c = search rules

pub returns-in-Some-clause-failed : goal.returns-in-Some-clause-failed
returns-in-Some-clause-failed g c = IfErr-weaker c.read_or_report.result _ _ (λ status is. inr is) c.read_or_report.ensures.failed
