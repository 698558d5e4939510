use Rattle.std.proofs.Common.{subst}
use Rattle.claim_gate.specs.Shared.{IsLawful}
use Rattle.claim_gate.proofs.state.GateState.into_journal.Goals as goal

pub returns-clause-lawful : goal.returns-clause-lawful
returns-clause-lawful c = subst IsLawful c.self.view_is c.self.invariant.lawful
