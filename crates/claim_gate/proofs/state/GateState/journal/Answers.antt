use Rattle.std.proofs.Common.{subst}
use Rattle.claim_gate.specs.Shared.{IsLawful, IsOrdered}
use Rattle.claim_gate.proofs.state.GateState.journal.Goals as goal

pub returns-clause-ordered : goal.returns-clause-ordered
returns-clause-ordered c = subst IsOrdered c.self.view_is c.self.invariant.ordered

pub returns-clause-lawful : goal.returns-clause-lawful
returns-clause-lawful c = subst IsLawful c.self.view_is c.self.invariant.lawful
