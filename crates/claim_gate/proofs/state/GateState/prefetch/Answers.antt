use Rattle.std.proofs.Common.{refl}
use Rattle.claim_gate.proofs.Replying.{kept_alike}
use Rattle.claim_gate.proofs.state.GateState.prefetch.Goals as goal

pub invariant_of-self : goal.invariant_of-self
invariant_of-self c = kept_alike c.self.inside c.self.inside.journal.items c.prefetch.new.self refl c.prefetch.ensures.same c.self.invariant
