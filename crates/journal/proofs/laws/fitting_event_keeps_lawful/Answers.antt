use Rattle.journal.proofs.LawfulMore.{lawful_more}
use Rattle.journal.proofs.laws.fitting_event_keeps_lawful.Goals as goal

pub returns : goal.returns
returns c = lawful_more
