use Rattle.std.proofs.Common.{ℕ, IfErr, IfOk, subst}
use Rattle.intake_csv.specs.Balances.{AreBalances, HasBalanceFault}
use Rattle.intake_csv.proofs.balances.read_balances.Goals as goal

pub returns-clause-ok : goal.returns-clause-ok
returns-clause-ok c = subst (λ (version : ℕ). IfOk c.read_by.result (AreBalances version c.args.text.now)) c.version.ensures.version c.read_by.ensures.ok

pub returns-clause-fault : goal.returns-clause-fault
returns-clause-fault c = subst (λ (version : ℕ). IfErr c.read_by.result (HasBalanceFault version c.args.text.now)) c.version.ensures.version c.read_by.ensures.fault
