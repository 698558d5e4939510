-- What contracts say of a gate that a lock protects.
use Rattle.claim_gate.specs.declared.locked.LockedGate.{LockedGate}
use Rattle.claim_gate.specs.Parts.{GateParts}
use Rattle.claim_gate.specs.Shared.{Known}
use Rattle.turn_lock.specs.declared.ticket.view.LiveView.{LiveView as Seen}

-- the lock of the gate
abbrev pub lock_of : {Lock Value Pass Holder : Type 0} → LockedGate Lock Value Pass Holder → Lock
lock_of gate = gate.lock

-- what a pass of a ticket lock knows of the gate that the lock protects
abbrev pub known_by : {V : Type 0} → (V → GateParts) → Seen V → Known
known_by shown k = record { seen = shown k.seen; found = shown k.last; tally = k.ended }
