use Rattle.std.proofs.Common.{inr, arith}
use Rattle.std.proofs.lemmas.Grind.{common_steps}
use Rattle.commands.proofs.explained.explain_claim.Goals as goal

pub returns-in-Err-clause-done : goal.returns-in-Err-clause-done
returns-in-Err-clause-done g c = λ is_done. absurd (c.refuse.ensures.not_done is_done)

pub returns-in-Err-clause-refused : goal.returns-in-Err-clause-refused
returns-in-Err-clause-refused g c = λ is_refused. inr (inr (record { stop = c.in-Err.stop; reason = c.in-Err.ensures.reason; is_status = c.refuse.ensures.status }))

pub returns-in-Ok-clause-refused : goal.returns-in-Ok-clause-refused
returns-in-Ok-clause-refused c = grind (arith, common_steps)

pub explain_found-requires-clause-found : goal.explain_found-requires-clause-found
explain_found-requires-clause-found c = grind (arith, common_steps)

pub explain_found-requires-clause-ordered : goal.explain_found-requires-clause-ordered
explain_found-requires-clause-ordered c = grind (arith, common_steps)

pub returns-in-Ok-clause-done : goal.returns-in-Ok-clause-done
returns-in-Ok-clause-done c = grind (arith, common_steps)
