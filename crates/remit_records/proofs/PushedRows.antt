-- The fields of the record for a row, one after another.
use Rattle.std.proofs.Common.{ℕ, [], ◌∷◌, decimal}
use Rattle.std.specs.Global.{Vec}
use Rattle.csv.specs.declared.writer.Writer.{Writer}
use Rattle.faults.specs.declared.file_fault.RowFault.{RowFault}
use Rattle.settlement.specs.declared.claim.Claim.{Claim}
use Rattle.intake_csv.specs.Records.{Fields}
use Rattle.intake_csv.specs.RowSummary.{AreIdColumnsOf, IsSummaryOf}
use Rattle.intake_csv.specs.declared.row_summary.RowSummary.TheVariants as summary
use Rattle.intake_csv.specs.declared.row_summary.IdColumns.{IdColumns}
use Rattle.intake_csv.specs.declared.rows.Row.{Row}
use Rattle.intake_csv.specs.declared.rows.Row.TheVariants.{Good, Bad}
use Rattle.remit_records.specs.Fields.{Pushes}
use Rattle.remit_records.specs.Looked.{found_of, looked_up}
use Rattle.remit_records.specs.Records.{id_column_fields, record_of, reported_of, reported_refused, status_fields, whose_fields}
use Rattle.remit_records.specs.declared.decisions.Decisions.{Decisions}
use Rattle.remit_records.proofs.Pushing.{both-pushed}

-- the row has a claim
pub row-pushed : (a b c d e : Writer (Vec ℕ)) (decisions : Decisions) (fields : Fields) (provider n p : ℕ) (columns : IdColumns) (row : Row)
    → IsSummaryOf fields (summary.Good n p columns) row → Pushes a b (decimal provider ∷ []) → Pushes b c (decimal n ∷ [])
    → ((claim : Claim) → AreIdColumnsOf fields columns claim → Pushes c d (id_column_fields decisions.version claim))
    → Pushes d e (status_fields (reported_of (found_of decisions provider p))) → Pushes a e (record_of (looked_up decisions) provider row)
row-pushed a b c d e decisions fields provider n p columns (Good number place claim) (same, at, located) first second identifiers status =
    rw (← same, ← at) (both-pushed a b e _ _ first (both-pushed b c e _ _ second (both-pushed c d e _ _ (identifiers claim located) status)))
row-pushed a b c d e decisions fields provider n p columns (Bad number fault) none first second identifiers status = absurd none

-- the row is refused
pub refusal-pushed : (a b c d e : Writer (Vec ℕ)) (decisions : Decisions) (fields : Fields) (provider n : ℕ) (fault : RowFault) (row : Row)
    → IsSummaryOf fields (summary.Bad n fault) row → Pushes a b (decimal provider ∷ []) → Pushes b c (decimal n ∷ [])
    → Pushes c d (whose_fields decisions.version [] [] [] []) → Pushes d e (status_fields (reported_refused fault)) → Pushes a e (record_of (looked_up decisions) provider row)
refusal-pushed a b c d e decisions fields provider n fault (Good number place claim) none first second identifiers status = absurd none
refusal-pushed a b c d e decisions fields provider n fault (Bad number found) (same, is) first second identifiers status =
    rw (← same, ← is) (both-pushed a b e _ _ first (both-pushed b c e _ _ second (both-pushed c d e _ _ identifiers status)))
