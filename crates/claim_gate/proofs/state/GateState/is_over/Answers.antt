use Rattle.std.proofs.Common.{rules}
use Rattle.claim_gate.proofs.Replying.{over_by_count}
use Rattle.claim_gate.proofs.state.GateState.is_over.Goals as goal

pub returns-then-self : goal.returns-then-self
returns-then-self c =
    rw (← c.self.view_is) (over_by_count c.self.inside.journal.items c.self.inside.lanes c.self.invariant.marked c.self.inside.decisions c.len.result (search rules) (search rules) (search rules))
