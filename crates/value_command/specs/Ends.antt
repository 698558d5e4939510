-- The meaning of the exit statuses, above all those of `value`.
use Rattle.std.specs.Prelude.{◌≡◌, ◌⊎◌, ℕ, List, Option, None, Some, Result, Ok, Err}
use Rattle.clap.specs.Words.{kind_of}
use Rattle.clap.specs.declared.error.Error.{Error}
use Rattle.clap.specs.declared.error.kind.ErrorKind.TheVariants.{DisplayHelp, DisplayVersion}
use Rattle.clap.specs.declared.parser.matches.ArgMatches.{ArgMatches}
use Rattle.console.specs.declared.exit_status.ExitStatus.{ExitStatus}
use Rattle.console.specs.declared.names.TheConstants.{ASSIGNMENT, VALUE}
use Rattle.console.specs.ExitStatus.{code_of}
use Rattle.evaluation.specs.declared.stop.ValueStop.{ValueStop}
use Rattle.evaluation.specs.Stop.{IsReason, status_of}
use Rattle.evaluation.specs.ValueText.{IsValueText}
use Rattle.value_command.specs.Texts.{IsNamedPlan, Whole}
use Rattle.value_command.specs.Words.{IsCommand, words_at}

-- some text meets the definition of the command's output
pub record HasText (IsText : List ℕ → Type 0) : Type 0 where
  pub text : List ℕ
  pub is_text : IsText text

-- some error has this reason, and this is its exit status
pub record IsStatusOf {S : Type 0} (status_of : S → ℕ) (IsReason : S → Type 0) (status : ExitStatus) : Type 0 where
  pub stop : S
  pub reason : IsReason stop
  pub is_status : code_of status ≡ status_of stop

-- some error of `value` has this reason, and this is its exit status
abbrev pub IsStatusOfRefusal : (ValueStop → Type 0) → ExitStatus → Type 0
IsStatusOfRefusal IsReason status = IsStatusOf status_of IsReason status

-- some text meets the definition of the command's output, and it is the new text of the place, if the place's text is known
abbrev pub PutsText : (List ℕ → Type 0) → Option (List ℕ) → Option (List ℕ) → Type 0
PutsText IsText None new = HasText IsText
PutsText IsText (Some old) new = (text : List ℕ) × IsText text × (new ≡ Some text)

-- `value` can end with `Done`: the named plan has an output text for the given arguments
pub record ValueIsDone (whole : Whole) (words : ArgMatches) : Type 0 where
  pub plan : List ℕ
  pub named : IsNamedPlan whole words plan
  pub has_text : HasText (IsValueText plan (words_at words ASSIGNMENT.now))

-- `value` can end with this status: an error of the named plan and the given arguments has it
pub record ValueIsRefused (whole : Whole) (words : ArgMatches) (status : ExitStatus) : Type 0 where
  pub plan : List ℕ
  pub named : IsNamedPlan whole words plan
  pub refused : IsStatusOfRefusal (IsReason plan (words_at words ASSIGNMENT.now)) status

-- the command line names this command, and the words after the name meet the definition
pub record Ends (matches : ArgMatches) (name : List ℕ) (EndsSo : ArgMatches → Type 0) : Type 0 where
  pub words : ArgMatches
  pub following : IsCommand matches name words
  pub ends_so : EndsSo words

-- the command line asks for help or the version
abbrev pub IsHelp : Error → Type 0
IsHelp fault = (kind_of fault ≡ DisplayHelp) ⊎ (kind_of fault ≡ DisplayVersion)

-- the command line names `value`, and the words after the name meet the definition
abbrev pub NamesValue : ArgMatches → (ArgMatches → Type 0) → Type 0
NamesValue matches EndsSo = Ends matches VALUE.now EndsSo

-- the command line names `value`, which can end with `Done`, or it asks for help or the version
abbrev pub IsDone : Whole → Result ArgMatches Error → Type 0
IsDone whole (Ok matches) = NamesValue matches (ValueIsDone whole)
IsDone whole (Err fault) = IsHelp fault

-- the command line names `value`, which can end with this status of an error
abbrev pub IsRefused : Whole → Result ArgMatches Error → ExitStatus → Type 0
IsRefused whole (Ok matches) status = NamesValue matches (λ words. ValueIsRefused whole words status)
IsRefused whole (Err fault) status = ⊥
