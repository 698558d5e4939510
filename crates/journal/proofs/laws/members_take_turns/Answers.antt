use Rattle.journal.proofs.Turns.{take_turns}
use Rattle.journal.proofs.laws.members_take_turns.Goals as goal

pub returns : goal.returns
returns c = take_turns
