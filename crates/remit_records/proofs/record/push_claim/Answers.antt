use Rattle.std.proofs.Common.{arith}
use Rattle.std.proofs.lemmas.Grind.{common_steps}
use Rattle.remit_records.proofs.Pushing.{both-pushed-ok}
use Rattle.remit_records.proofs.record.push_claim.Goals as goal

pub returns-in_ok-push_field-in-None : goal.returns-in_ok-push_field-in-None
returns-in_ok-push_field-in-None c = rw c.in-None.is (both-pushed-ok _ _ _ _ _ _ c.in_ok-push_field-in-None.ensures c.push_repeated.ensures)

pub returns-in-Some : goal.returns-in-Some
returns-in-Some c = grind (arith, common_steps)
