use Rattle.std.proofs.Common.{inl, inr, arith}
use Rattle.std.proofs.lemmas.Grind.{common_steps}
use Rattle.commands.proofs.Explanations.{no_family_is_there, family_is_written}
use Rattle.commands.proofs.explained.explain_family.Goals as goal

pub returns-in-Ok-clause-done : goal.returns-in-Ok-clause-done
returns-in-Ok-clause-done g c = λ is_done. family_is_written _ _ _ _ _ _ c.in-Ok.explained c.in-Ok.ensures.written (c.report.ensures.done is_done)

pub returns-in-Ok-clause-refused : goal.returns-in-Ok-clause-refused
returns-in-Ok-clause-refused g c = λ is_refused. inl (no_family_is_there _ _ _ _ _ _ c.in-Ok.explained c.in-Ok.ensures.written (c.report.ensures.refused is_refused))

pub returns-in-Err-clause-done : goal.returns-in-Err-clause-done
returns-in-Err-clause-done g c = λ is_done. absurd (c.refuse.ensures.not_done is_done)

pub returns-in-Err-clause-refused : goal.returns-in-Err-clause-refused
returns-in-Err-clause-refused g c = λ is_refused. inr (record { stop = c.in-Err.stop; reason = c.in-Err.ensures.reason; is_status = c.refuse.ensures.status })

pub returns-in-Some-clause-refused : goal.returns-in-Some-clause-refused
returns-in-Some-clause-refused c = grind (arith, common_steps)

pub returns-in-Some-clause-done : goal.returns-in-Some-clause-done
returns-in-Some-clause-done c = grind (arith, common_steps)

pub print_error-requires-text-line : goal.print_error-requires-text-line
print_error-requires-text-line c = grind (arith, common_steps)
