use Rattle.std.proofs.lemmas.Result.{on_ok_weaker}
use Rattle.remit_records.proofs.PushedRows.{refusal-pushed, row-pushed}
use Rattle.remit_records.proofs.record.push_row.Goals as goal

pub returns-in_ok-push_id_columns-in-Good : goal.returns-in_ok-push_id_columns-in-Good
returns-in_ok-push_id_columns-in-Good c =
    on_ok_weaker c.push_claim.result
    (λ status row is_summary.
    row-pushed _ _ _ _ _ c.args.decisions.now c.args.source.now c.args.provider c.in-Good.number c.in-Good.place c.in-Good.id_columns row (rw c.in-Good.is at is_summary)
    c.in_ok-push_number.ensures c.in_ok-push_number-in-Good.ensures (rw c.version.ensures at c.in_ok-push_id_columns-in-Good.ensures) status)
    (rw c.outcome.ensures at c.push_claim.ensures)

pub returns-in_ok-push_whose-in-Bad : goal.returns-in_ok-push_whose-in-Bad
returns-in_ok-push_whose-in-Bad c =
    on_ok_weaker c.push_refused.result
    (λ status row is_summary.
    refusal-pushed _ _ _ _ _ c.args.decisions.now c.args.source.now c.args.provider c.in-Bad.number c.in-Bad.fault row (rw c.in-Bad.is at is_summary)
    c.in_ok-push_number.ensures c.in_ok-push_number-in-Bad.ensures (rw c.version-in-Bad.ensures at c.in_ok-push_whose-in-Bad.ensures) status)
    c.push_refused.ensures
