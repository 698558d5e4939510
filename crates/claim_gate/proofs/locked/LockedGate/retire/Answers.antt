use Rattle.std.proofs.Common.{rules}
use Rattle.claim_gate.proofs.locked.LockedGate.retire.Goals as goal

pub returns-in-Ok-clause-found : goal.returns-in-Ok-clause-found
returns-in-Ok-clause-found g c = search rules

pub returns-in-Ok-clause-fresh : goal.returns-in-Ok-clause-fresh
returns-in-Ok-clause-fresh g c =
    let shows = g.met.S.Value.SerialGate.shows in
    rw c.retire.ensures (shows (g.S.Section.seen c.args.pass) c.in-Ok.state c.in-Ok.ensures.fresh)

pub returns-in-Ok-clause-lawful : goal.returns-in-Ok-clause-lawful
returns-in-Ok-clause-lawful g c = rw c.retire.ensures c.journal-lawful.ensures.lawful
