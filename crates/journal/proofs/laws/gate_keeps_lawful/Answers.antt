use Rattle.journal.proofs.GateMoves.{offer_goes, end_goes, take_goes, finish_goes, stop_goes}
use Rattle.journal.proofs.laws.gate_keeps_lawful.Goals as goal

pub returns : goal.returns
returns c = record { offer = offer_goes; end = end_goes; take = take_goes; finish = finish_goes; stop = stop_goes }
