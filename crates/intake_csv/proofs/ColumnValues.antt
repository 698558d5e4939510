-- The values of columns, and records of which a column is refused.
use Rattle.std.proofs.Common.{◌≡◌, ℕ, sym, List, Result, Ok, Err, Option, Some, None, subst}
use Rattle.std.specs.Prelude.{IfOk, IfNone}
use Rattle.std.specs.Result.{result_ok}
use Rattle.std.specs.declared.alloc.AllocError.{AllocError}
use Rattle.std.specs.List.{All, Any}
use Rattle.feel_tests.specs.declared.value.Value.{Value}
use Rattle.settlement.specs.declared.claim.Claim.{Claim}
use Rattle.intake_csv.specs.Fields.{Holds, IsFaulty, IsFieldRead}
use Rattle.intake_csv.specs.Validated.{IsReadUnder, IsRefusedUnder, IsTextUnder}
use Rattle.intake_csv.specs.Records.{Fields}
use Rattle.intake_csv.specs.Rows.{IsFaultlessUnder}
use Rattle.intake_csv.specs.declared.column.Column.{Column}
use Rattle.intake_csv.specs.declared.column.Content.{Content}
use Rattle.faults.specs.declared.file_fault.RowCause.{RowCause}

-- not all columns are without a fault if one is refused
pub one-is-refused : (fields : Fields) (columns : List Column) → Any (IsRefusedUnder fields) columns → All (IsFaultlessUnder fields) columns → ⊥
one-is-refused fields columns (k, c, within, is, refused) all = subst (IsFaultlessUnder fields) is (all k c within) refused.0 refused.1

-- if the result has no claim, one of these columns is refused
abbrev pub ReportsRefused : Fields → List Column → Result (Option Claim) AllocError → Type 0
ReportsRefused fields columns result = IfOk result (λ read. IfNone read (Any (IsRefusedUnder fields) columns))

pub refused-among : (fields : Fields) (few more : List Column) (result : Result (Option Claim) AllocError)
    → (Any (IsRefusedUnder fields) few → Any (IsRefusedUnder fields) more) → ReportsRefused fields few result → ReportsRefused fields more result
refused-among fields few more (Ok None) among refused = among refused
refused-among fields few more (Ok (Some claim)) among refused = tt
refused-among fields few more (Err fault) among refused = tt

-- what is read of the text of a column is the value of its field, or the field is refused
pub read-under : {A : Type 0} (value : A → Value) (fields : Fields) (c : Column) (content : Content) (bytes : List ℕ) (read : Result A RowCause) → c.content ≡ content
    → IsTextUnder fields c bytes → IsFieldRead value content bytes read → IsReadUnder value fields c (result_ok read)
read-under value fields c content bytes (Ok x) is text h = record { bytes = bytes; field = text.0; holds = subst (λ k. Holds k bytes (value x)) (sym is) h.0 }
read-under value fields c content bytes (Err cause) is text h = (cause, record { bytes = bytes; field = text.0; faulty = subst (λ k. IsFaulty k bytes cause) (sym is) h })
