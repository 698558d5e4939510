-- The exit statuses of `value` over a file of rows.
use Rattle.std.specs.Prelude.{◌⊎◌, ℕ, List}
use Rattle.clap.specs.declared.parser.matches.ArgMatches.{ArgMatches}
use Rattle.console.specs.declared.exit_status.ExitStatus.{ExitStatus}
use Rattle.console.specs.declared.names.TheConstants.{ROWS}
use Rattle.intake_csv.specs.Limits.{file_limit_bytes}
use Rattle.plan_rows.specs.RowsStop.{IsReason, status_of}
use Rattle.plan_rows.specs.ValuedRows.{IsRowsText}
use Rattle.remarks.specs.Quotes.{EndsInQuotes}
use Rattle.value_command.specs.Ends.{HasText, IsStatusOf}
use Rattle.value_command.specs.Texts.{IsNamedPlan, IsNamedText, Whole}
use Rattle.value_command.specs.Words.{word_at}

-- the bytes are read from the named file of rows
abbrev pub IsNamedRows : Whole → ArgMatches → List ℕ → Type 0
IsNamedRows whole words rows = IsNamedText file_limit_bytes whole (word_at words ROWS.now) rows

-- the plan and the rows have a text, and the file does not end within a quoted field
abbrev pub IsDoneRows : List ℕ → List ℕ → Type 0
IsDoneRows plan rows = HasText (IsRowsText plan rows) × ¬ EndsInQuotes rows

-- the file ends within a quoted field, or this is the exit status of an error of these texts
abbrev pub IsRefusedRows : List ℕ → List ℕ → ExitStatus → Type 0
IsRefusedRows plan rows status = EndsInQuotes rows ⊎ IsStatusOf status_of (IsReason plan rows) status

-- `value` can end with `Done`: the named plan and the named rows have a text, and no row is lost
pub record RowsIsDone (whole : Whole) (words : ArgMatches) : Type 0 where
  pub plan : List ℕ
  pub named : IsNamedPlan whole words plan
  pub rows : List ℕ
  pub named_rows : IsNamedRows whole words rows
  pub done : IsDoneRows plan rows

-- `value` can end with this status: rows of the named file are lost, or the status is that of an error of the named texts
pub record RowsIsRefused (whole : Whole) (words : ArgMatches) (status : ExitStatus) : Type 0 where
  pub plan : List ℕ
  pub named : IsNamedPlan whole words plan
  pub rows : List ℕ
  pub named_rows : IsNamedRows whole words rows
  pub refused : IsRefusedRows plan rows status
