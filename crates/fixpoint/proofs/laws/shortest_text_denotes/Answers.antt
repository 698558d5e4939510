use Rattle.fixpoint.proofs.ShortestText.{shortest_text_denotes}
use Rattle.fixpoint.proofs.laws.shortest_text_denotes.Goals as goal

pub returns : goal.returns
returns c = shortest_text_denotes
