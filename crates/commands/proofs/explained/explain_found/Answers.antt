use Rattle.std.proofs.Common.{arith}
use Rattle.std.proofs.lemmas.Grind.{common_steps}
use Rattle.commands.proofs.Explanations.{found_done, found_refused}
use Rattle.commands.proofs.explained.explain_found.Goals as goal

pub returns-clause-done : goal.returns-clause-done
returns-clause-done g c = found_done _ _ _ _ c.in-Some.first _ (rw c.in-Some.is at c.requires.found) c.explain_record.ensures.done

pub returns-clause-refused : goal.returns-clause-refused
returns-clause-refused g c = found_refused c.found_claim_has_a_record.ensures _ _ _ c.in-Some.first _ (rw c.in-Some.is at c.requires.found) c.explain_record.ensures.refused

pub returns-in_default-clause-refused : goal.returns-in_default-clause-refused
returns-in_default-clause-refused c = grind (arith, common_steps)

pub returns-in_default-clause-done : goal.returns-in_default-clause-done
returns-in_default-clause-done c = grind (arith, common_steps)

pub explain_record-requires : goal.explain_record-requires
explain_record-requires c = grind (arith, common_steps)
