use Rattle.claim_gate.proofs.Families.{of_texts}
use Rattle.claim_gate.proofs.laws.families_of_texts_are_their_members.Goals as goal

pub returns : goal.returns
returns c = of_texts c.families_are_their_members.ensures
