use Rattle.std.proofs.Common.{arith}
use Rattle.std.proofs.lemmas.Grind.{common_steps}
use Rattle.commands.proofs.Explanations.{claim_is_asked}
use Rattle.commands.proofs.explained.explain_subject.Goals as goal

pub returns-in-Claim-clause-done : goal.returns-in-Claim-clause-done
returns-in-Claim-clause-done g c = claim_is_asked _ _ _ _ _ _ c.in-Claim.is c.explain_claim.ensures.done

pub explain_family-requires-text-name : goal.explain_family-requires-text-name
explain_family-requires-text-name c = grind (arith, common_steps)

pub returns-in-Family-clause-refused : goal.returns-in-Family-clause-refused
returns-in-Family-clause-refused c = grind (arith, common_steps)

pub returns-in-Member-clause-refused : goal.returns-in-Member-clause-refused
returns-in-Member-clause-refused c = grind (arith, common_steps)

pub returns-in-Record-clause-refused : goal.returns-in-Record-clause-refused
returns-in-Record-clause-refused c = grind (arith, common_steps)

pub explain_family-requires-in-Family-text-name : goal.explain_family-requires-in-Family-text-name
explain_family-requires-in-Family-text-name c = grind (arith, common_steps)
