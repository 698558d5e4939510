use Rattle.std.proofs.Common.{inl, inr, refl}
use Rattle.value_command.proofs.output.commit_output.Goals as goal

pub returns-in-Ok-finish-clause-status : goal.returns-in-Ok-finish-clause-status
returns-in-Ok-finish-clause-status g c = rw c.in-Ok.is (inl refl)

pub returns-in-Ok-finish-clause-refused : goal.returns-in-Ok-finish-clause-refused
returns-in-Ok-finish-clause-refused g c = rw c.in-Ok.is tt

pub returns-in-Ok-finish-clause-kept : goal.returns-in-Ok-finish-clause-kept
returns-in-Ok-finish-clause-kept g c = λ not_done. absurd (not_done refl)

pub returns-in-Err-finish-clause-status : goal.returns-in-Err-finish-clause-status
returns-in-Err-finish-clause-status g c = rw c.in-Ok.is (inr c.report_unwritable.ensures)

pub returns-in-Err-finish-clause-refused : goal.returns-in-Err-finish-clause-refused
returns-in-Err-finish-clause-refused g c = rw c.in-Ok.is tt

pub returns-in-Err-finish-clause-put : goal.returns-in-Err-finish-clause-put
returns-in-Err-finish-clause-put g c = λ is_done. absurd (cc (is_done, c.report_unwritable.ensures))

pub returns-in-Err-clause-status : goal.returns-in-Err-clause-status
returns-in-Err-clause-status g c = rw c.in-Err.is c.report_error.ensures.status

pub returns-in-Err-clause-refused : goal.returns-in-Err-clause-refused
returns-in-Err-clause-refused g c = rw c.in-Err.is c.report_error.ensures.refused

pub returns-in-Err-clause-put : goal.returns-in-Err-clause-put
returns-in-Err-clause-put g c = λ is_done. absurd (c.report_error.ensures.refused is_done)

pub returns-in-Err-clause-kept : goal.returns-in-Err-clause-kept
returns-in-Err-clause-kept g c = λ _. c.finish-in-Err.ensures.kept refl
