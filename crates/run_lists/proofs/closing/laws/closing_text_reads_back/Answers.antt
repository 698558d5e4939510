use Rattle.run_lists.proofs.ReadingBack.{reads_back}
use Rattle.run_lists.proofs.closing.laws.closing_text_reads_back.Goals as goal

pub returns : goal.returns
returns c = reads_back c.money_text_denotes.ensures c.text_denotes_at_most_one.ensures
