use Rattle.turn_lock.specs.TicketShown.{pass_knows}
use Rattle.claim_gate.proofs.Sharing.{met_known}
use Rattle.claim_gate.proofs.locked.LockedGate+TicketLock+V.meet.Goals as goal

pub returns-clause-met : goal.returns-clause-met
returns-clause-met g c = met_known _ g.V.SerialGate.shown g.met.V.SerialGate.shows (pass_knows c.args.one) (pass_knows c.args.other) (pass_knows c.meet.result.0) c.meet.ensures.met

pub returns-clause-same : goal.returns-clause-same
returns-clause-same g c = c.meet.ensures.same

pub returns-clause-worn : goal.returns-clause-worn
returns-clause-worn g c = c.meet.ensures.worn
