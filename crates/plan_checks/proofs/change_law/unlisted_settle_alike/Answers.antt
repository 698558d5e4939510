use Rattle.plan_checks.proofs.SettledAlike.{unlisted_settle_alike}
use Rattle.plan_checks.proofs.change_law.unlisted_settle_alike.Goals as goal

pub returns : goal.returns
returns c = unlisted_settle_alike
