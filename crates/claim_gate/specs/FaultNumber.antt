-- The numbers of faults.
use Rattle.std.specs.Prelude.{ℕ}
use Rattle.claim_gate.specs.declared.fault.OfferFault.{OfferFault}
use Rattle.claim_gate.specs.declared.fault.OfferFault.TheVariants as offer
use Rattle.claim_gate.specs.declared.fault.EndFault.{EndFault}
use Rattle.claim_gate.specs.declared.fault.EndFault.TheVariants as end
use Rattle.claim_gate.specs.declared.fault.TakeFault.{TakeFault}
use Rattle.claim_gate.specs.declared.fault.TakeFault.TheVariants as take
use Rattle.claim_gate.specs.declared.fault.FinishFault.{FinishFault}
use Rattle.claim_gate.specs.declared.fault.FinishFault.TheVariants as finish

-- the number of a fault of `offer`
abbrev pub offer_number_of : OfferFault → ℕ
offer_number_of offer.Stopped = 2
offer_number_of offer.Closed = 3
offer_number_of (offer.OutOfTurn expected) = 4
offer_number_of offer.OutOfMemory = 5

-- the number of a fault of `end`
abbrev pub end_number_of : EndFault → ℕ
end_number_of end.Stopped = 2
end_number_of end.Closed = 3
end_number_of (end.OutOfTurn expected) = 4
end_number_of end.AlreadyEnded = 5
end_number_of end.OutOfMemory = 6

-- the number of a fault of `take`
abbrev pub take_number_of : TakeFault → ℕ
take_number_of take.OutOfMemory = 6

-- the number of a fault of `finish`
abbrev pub finish_number_of : FinishFault → ℕ
finish_number_of finish.Stopped = 2
finish_number_of finish.AlreadyDecided = 3
finish_number_of finish.OutOfMemory = 4
