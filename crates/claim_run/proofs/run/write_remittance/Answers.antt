use Rattle.std.proofs.Common.{arith}
use Rattle.std.proofs.lemmas.Grind.{common_steps}
use Rattle.std.proofs.lemmas.Result.{err_from_is_err_and}
use Rattle.claim_run.proofs.OrderedRuns.{writes_in_order}
use Rattle.claim_run.proofs.Remittances.{closing_written, counts_written, failed_by_run, notes_written, stops_by_run, stops_by_write, writes_remittance}
use Rattle.claim_run.proofs.run.write_remittance.Goals as goal

pub returns-in_err-batch-clause-stopped : goal.returns-in_err-batch-clause-stopped
returns-in_err-batch-clause-stopped g c =
    let stopped = err_from_is_err_and c.from_residual.result c.from_residual.ensures.1 in
    rw stopped.1 (stops_by_run c.args.terms.now c.args.workers _ _ _ c.in_err-batch.ensures.refused stopped.2)

pub returns-in_err-write_report_by_threads-clause-stopped : goal.returns-in_err-write_report_by_threads-clause-stopped
returns-in_err-write_report_by_threads-clause-stopped g c =
    let stopped = err_from_is_err_and c.from_residual-in_err-write_report_by_threads.result c.from_residual-in_err-write_report_by_threads.ensures.1 in
    rw stopped.1 (stops_by_write c.args.terms.now _ c.in_ok-batch.ensures.finished _ _ c.args.workers _ _ c.claim_lists_exist.ensures c.in_err-write_report_by_threads.ensures.refused stopped.2)

pub returns-clause-written : goal.returns-clause-written
returns-clause-written g c = writes_remittance c.args.terms.now _ c.in_ok-batch.ensures.finished _ _ c.in_ok-write_report_by_threads.ensures.written

pub returns-clause-ordered : goal.returns-clause-ordered
returns-clause-ordered g c = writes_in_order c.args.terms.now _ c.in_ok-batch.ensures.finished c.in_ok-batch.ensures.ordered _ _ c.in_ok-write_report_by_threads.ensures.written

pub returns-clause-counted : goal.returns-clause-counted
returns-clause-counted g c =
    rw c.note.ensures.counts (rw c.close.ensures.counts
    (counts_written c.args.terms.now _ c.in_ok-batch.ensures.finished _ _ _ c.in_ok-write_report_by_threads.ensures.written c.count.ensures))

pub returns-clause-closed : goal.returns-clause-closed
returns-clause-closed g c =
    rw c.note.ensures.closing
    (closing_written c.args.terms.now _ c.in_ok-batch.ensures.finished _ _ _ c.in_ok-write_report_by_threads.ensures.written c.close.ensures.closing)

pub returns-clause-noted : goal.returns-clause-noted
returns-clause-noted g c =
    notes_written c.args.terms.now _ c.in_ok-batch.ensures.finished _ _ _ c.in_ok-write_report_by_threads.ensures.written c.note.ensures.notes

pub note-requires : goal.note-requires
note-requires g c = record { same_terms = c.in_ok-batch.ensures.terms }

pub close-requires : goal.close-requires
close-requires g c = record { same_terms = c.in_ok-batch.ensures.terms }

pub returns-in_err-batch-clause-failed : goal.returns-in_err-batch-clause-failed
returns-in_err-batch-clause-failed g c =
    let stopped = err_from_is_err_and c.from_residual.result c.from_residual.ensures.1 in
    rw stopped.1 (failed_by_run _ _ _ stopped.2)

pub returns-in_err-write_report_by_threads-clause-failed : goal.returns-in_err-write_report_by_threads-clause-failed
returns-in_err-write_report_by_threads-clause-failed g c = grind (arith, common_steps)

pub returns-clause-workers : goal.returns-clause-workers
returns-clause-workers g c = c.in_ok-batch.ensures.workers

pub write_report_by_threads-requires-clause-same_terms : goal.write_report_by_threads-requires-clause-same_terms
write_report_by_threads-requires-clause-same_terms g c κs within = c.in_ok-batch.ensures.terms

pub count-requires : goal.count-requires
count-requires g c = record { same_terms = c.in_ok-batch.ensures.terms }
