use Rattle.claim_gate.proofs.serial.BoxSerialGate.offer.Goals as goal

pub offer-requires-clause-due : goal.offer-requires-clause-due
offer-requires-clause-due g c = rw c.deref_mut.ensures.value c.requires.due
