-- The exit statuses of `value` over a file of rows, from those of its parts.
use Rattle.std.proofs.Common.{◌≡◌, ◌≢◌, ◌⊎◌, ◌↔◌, ◌∙◌, ℕ, Bool, true, false, List, Option, Result, OnErr, OnOk, IsTrue, inl, inr, sym, subst}
use Rattle.std.proofs.lemmas.Bool.{false≢true}
use Rattle.clap.specs.declared.parser.matches.ArgMatches.{ArgMatches}
use Rattle.console.specs.declared.exit_status.ExitStatus.{ExitStatus}
use Rattle.console.specs.declared.exit_status.ExitStatus.TheVariants.{Done, Refused}
use Rattle.evaluation.specs.Stop.{WritesText}
use Rattle.plan_rows.specs.RowsStop.{IsReason, status_of}
use Rattle.plan_rows.specs.ValuedRows.{IsRowsText}
use Rattle.plan_rows.specs.declared.rows_stop.RowsStop.{RowsStop}
use Rattle.remarks.specs.Quotes.{EndsInQuotes}
use Rattle.value_command.specs.Ends.{IsStatusOf}
use Rattle.value_command.specs.Texts.{IsNamedPlan, Whole}
use Rattle.value_command.proofs.Ends.{ends_done}
use Rattle.plan_commands.specs.Rows.{IsDoneRows, IsNamedRows, IsRefusedRows, RowsIsDone, RowsIsRefused}

-- `value` over the named texts
pub rows_done : (whole : Whole) (words : ArgMatches) (plan rows : List ℕ) (status : ExitStatus) → IsNamedPlan whole words plan → IsNamedRows whole words rows
    → (status ≡ Done → IsDoneRows plan rows) → status ≡ Done → RowsIsDone whole words
rows_done whole words plan rows status named named_rows done is_done =
    record { plan = plan; named = named; rows = rows; named_rows = named_rows; done = done is_done }

pub rows_refused : (whole : Whole) (words : ArgMatches) (plan rows : List ℕ) (status : ExitStatus) → IsNamedPlan whole words plan → IsNamedRows whole words rows
    → (status ≡ Refused → IsRefusedRows plan rows status) → status ≡ Refused → RowsIsRefused whole words status
rows_refused whole words plan rows status named named_rows refused is_refused =
    record { plan = plan; named = named; rows = rows; named_rows = named_rows; refused = refused is_refused }

-- the text is written, and no row is lost
pub all_written : (plan rows : List ℕ) (old new : Option (List ℕ)) (answer : Result (Unit {0}) RowsStop) (written : ExitStatus) (loses : Bool) (status : ExitStatus)
    → OnOk answer (WritesText (IsRowsText plan rows) old new) → OnErr answer (written ≢ Done) → (IsTrue loses ↔ EndsInQuotes rows)
    → (status ≡ Done → (written ≡ Done) × (loses ≡ false)) → status ≡ Done → IsDoneRows plan rows
all_written plan rows old new answer written loses status writes refused opened done is_done =
    let both = done is_done in (
      ends_done (IsRowsText plan rows) old new answer written writes refused both.0,
      λ ends. false≢true (sym both.1 ∙ opened.1 ends),
    )

-- there is an error, or rows are lost
pub not_all_written : (plan rows : List ℕ) (written : ExitStatus) (loses : Bool) (status : ExitStatus) → (written ≢ Done → IsStatusOf status_of (IsReason plan rows) written)
    → (IsTrue loses ↔ EndsInQuotes rows) → (status ≡ Refused → ((written ≢ Done) × (written ≡ status)) ⊎ (loses ≡ true)) → status ≡ Refused → IsRefusedRows plan rows status
not_all_written plan rows written loses status reasons opened refused is_refused =
    elim (refused is_refused) [
      | inl kept ↦ inr (subst (λ s. IsStatusOf status_of (IsReason plan rows) s) kept.1 (reasons kept.0))
      | inr lost ↦ inl (opened.0 lost)
    ]
