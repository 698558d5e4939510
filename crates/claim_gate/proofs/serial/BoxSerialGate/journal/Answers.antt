use Rattle.claim_gate.proofs.serial.BoxSerialGate.journal.Goals as goal

pub returns-clause-ordered : goal.returns-clause-ordered
returns-clause-ordered g c = rw c.deref.ensures at c.journal.ensures.ordered
