-- The exit statuses of `test`.
use Rattle.std.specs.Prelude.{◌⊎◌, ℕ, List}
use Rattle.clap.specs.declared.parser.matches.ArgMatches.{ArgMatches}
use Rattle.console.specs.declared.exit_status.ExitStatus.{ExitStatus}
use Rattle.console.specs.declared.names.TheConstants.{CASES}
use Rattle.intake_csv.specs.Limits.{file_limit_bytes}
use Rattle.plan_rows.specs.Report.{IsTestText}
use Rattle.plan_rows.specs.Stop.{IsReason, status_of}
use Rattle.plan_rows.specs.declared.testing.Tested.TheVariants.{AllRight, Differing}
use Rattle.remarks.specs.Quotes.{EndsInQuotes}
use Rattle.value_command.specs.Ends.{HasText, IsStatusOf}
use Rattle.value_command.specs.Texts.{IsNamedPlan, IsNamedText, Whole}
use Rattle.value_command.specs.Words.{word_at}

-- the bytes are read from the named file of tests
abbrev pub IsNamedCases : Whole → ArgMatches → List ℕ → Type 0
IsNamedCases whole matches cases = IsNamedText file_limit_bytes whole (word_at matches CASES.now) cases

-- there is a row, each row is right, and the file does not end within a quoted field
abbrev pub IsDoneTest : List ℕ → List ℕ → Type 0
IsDoneTest plan cases = HasText (IsTestText plan cases AllRight) × ¬ EndsInQuotes cases

-- a row of the file is not right, there is none, the file ends within a quoted field, or this is the exit status of an error of these texts
abbrev pub IsRefusedTest : List ℕ → List ℕ → ExitStatus → Type 0
IsRefusedTest plan cases status =
    HasText (IsTestText plan cases Differing) ⊎ (EndsInQuotes cases ⊎ IsStatusOf status_of (IsReason plan cases) status)

-- `test` can end with `Done`: the named file has rows, each of them is right under the named plan, and none is lost
pub record TestIsDone (whole : Whole) (words : ArgMatches) : Type 0 where
  pub plan : List ℕ
  pub named : IsNamedPlan whole words plan
  pub cases : List ℕ
  pub named_cases : IsNamedCases whole words cases
  pub done : IsDoneTest plan cases

-- `test` can end with this status: the rows of the named file are not all right under the named plan, or the status is that of an error of the two
pub record TestIsRefused (whole : Whole) (words : ArgMatches) (status : ExitStatus) : Type 0 where
  pub plan : List ℕ
  pub named : IsNamedPlan whole words plan
  pub cases : List ℕ
  pub named_cases : IsNamedCases whole words cases
  pub refused : IsRefusedTest plan cases status
