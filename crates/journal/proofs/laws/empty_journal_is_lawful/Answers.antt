use Rattle.journal.proofs.LawfulMore.{lawful_start}
use Rattle.journal.proofs.laws.empty_journal_is_lawful.Goals as goal

pub returns : goal.returns
returns c = lawful_start
