use Rattle.claim_gate.proofs.serial.BoxSerialGate.counts.Goals as goal

pub returns : goal.returns
returns g c = λ T. rw c.deref.ensures at c.counts.ensures T
