use Rattle.std.proofs.Common.{refl, rules, subst}
use Rattle.journal.specs.Leading.{leads_itself}
use Rattle.claim_gate.specs.Shared.{IsLawful}
use Rattle.claim_gate.proofs.Replying.{runs_seen, stopped_seen}
use Rattle.claim_gate.proofs.state.GateState.finish.Goals as goal

pub returns-then-self-clause-leads : goal.returns-then-self-clause-leads
returns-then-self-clause-leads c = leads_itself c.args.self.now

pub returns-then-self-clause-lawful : goal.returns-then-self-clause-lawful
returns-then-self-clause-lawful c = subst IsLawful c.self.view_is c.self.invariant.lawful

pub returns-then-is_decided-clause-leads : goal.returns-then-is_decided-clause-leads
returns-then-is_decided-clause-leads c = leads_itself c.args.self.now

pub returns-then-is_decided-clause-lawful : goal.returns-then-is_decided-clause-lawful
returns-then-is_decided-clause-lawful c = subst IsLawful c.self.view_is c.self.invariant.lawful

pub returns-then-self-clause-reply : goal.returns-then-self-clause-reply
returns-then-self-clause-reply c = λ T is. (stopped_seen c.self.inside c.args.self.now c.self.view_is c.self.invariant c.if-self.true, refl)

pub returns-then-is_decided-clause-reply : goal.returns-then-is_decided-clause-reply
returns-then-is_decided-clause-reply c = λ T is. (runs_seen c.self.inside c.args.self.now c.self.view_is c.self.invariant c.if-self.false, search rules, refl)
