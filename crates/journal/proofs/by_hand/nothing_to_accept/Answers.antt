use Rattle.journal.proofs.Worked.{empty_file_finishes, nothing_is_accepted}
use Rattle.journal.proofs.by_hand.nothing_to_accept.Goals as goal

pub returns : goal.returns
returns c = record { empty_file = empty_file_finishes; cutoff = nothing_is_accepted }
