use Rattle.journal.proofs.Worked.{members_take_turns, answers_in_turn, answers_once, answers_stopped, answers_closed}
use Rattle.journal.proofs.by_hand.answers_as_worked.Goals as goal

pub returns : goal.returns
returns c = λ w decision files. (members_take_turns w, answers_in_turn w, answers_once w decision, answers_stopped w decision, answers_closed w files)
