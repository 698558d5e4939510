-- The meaning of the exit statuses of a run.
use Rattle.std.specs.Prelude.{◌≢◌, ◌⊎◌, ℕ, List, Option, Result, Ok, Err}
use Rattle.clap.specs.declared.error.Error.{Error}
use Rattle.clap.specs.declared.parser.matches.ArgMatches.{ArgMatches}
use Rattle.console.specs.declared.exit_status.ExitStatus.{ExitStatus}
use Rattle.console.specs.declared.names.TheConstants.{RUN}
use Rattle.value_command.specs.Ends.{Ends, HasText, IsHelp}
use Rattle.value_command.specs.Texts.{Whole}
use Rattle.claim_run.specs.RunStop.{IsRunReason}
use Rattle.journal.specs.declared.order.Order.{Order}
use Rattle.journal.specs.declared.order.Order.TheVariants.{Any}
use Rattle.orders.specs.RunTexts.{IsOrderedRemittance, RunTexts}
use Rattle.claim_run.specs.RunText.{IsRemittance}
use Rattle.claim_console.specs.declared.texts.Texts.{Texts}
use Rattle.claim_console.specs.Ends.{IsStatusOfRefusal}
use Rattle.claim_console.specs.Texts.{AreClosed, HasNamedTexts, texts_at}
use Rattle.claim_console.specs.Words.{AsksStrict, IsCutoff, IsOrder, IsStrict, IsWorkers}

-- the bytes are a remittance of the texts, and where an order is asked for, the one in this order
pub record IsRemittanceIn (order : Order) (texts : RunTexts) (bytes : List ℕ) : Type 0 where
  pub whole : IsRemittance texts bytes
  pub ordered : order ≢ Any → IsOrderedRemittance order texts bytes

-- these texts have a remittance at the cutoff and in the order of the command line
pub record HasRemittance (words : ArgMatches) (texts : Texts) : Type 0 where
  pub cutoff : Option ℕ
  pub asked : IsCutoff words cutoff
  pub order : Order
  pub ordered : IsOrder words order
  pub has_text : HasText (IsRemittanceIn order (texts_at texts cutoff))

-- this is the exit status of an error of a run of these texts, with the cutoff and the workers of the command line
pub record IsRefusedRun (words : ArgMatches) (texts : Texts) (status : ExitStatus) : Type 0 where
  pub cutoff : Option ℕ
  pub asked : IsCutoff words cutoff
  pub workers : ℕ
  pub engaged : IsWorkers words workers
  pub refused : IsStatusOfRefusal (IsRunReason (texts_at texts cutoff) workers) status

-- a run of these texts can end with this status, which is not `Done`: it is that of an error, or all records of a file are refused under `--strict`
abbrev pub IsStatusOfRun : ArgMatches → RunTexts → ℕ → ExitStatus → Type 0
IsStatusOfRun words texts workers status = IsStatusOfRefusal (IsRunReason texts workers) status ⊎ IsStrict words

-- `run` can end with `Done`: the named texts have a remittance, and under `--strict` none of them ends within a quoted field
pub record RunIsDone (whole : Whole) (words : ArgMatches) : Type 0 where
  pub texts : Texts
  pub named : HasNamedTexts whole words texts
  pub closed : AsksStrict words → AreClosed texts
  pub has_remittance : HasRemittance words texts

-- this is the exit status of an error of a run of the named texts
pub record TextsAreRefused (whole : Whole) (words : ArgMatches) (status : ExitStatus) : Type 0 where
  pub texts : Texts
  pub named : HasNamedTexts whole words texts
  pub refused : IsRefusedRun words texts status

-- `run` can end with this status: it is that of an error of a run of the named texts, or `--strict` may refuse them
abbrev pub RunIsRefused : Whole → ArgMatches → ExitStatus → Type 0
RunIsRefused whole words status = TextsAreRefused whole words status ⊎ IsStrict words

-- the command line names `run`, which can end with `Done`, or it asks for help or the version
abbrev pub IsDone : Whole → Result ArgMatches Error → Type 0
IsDone whole (Ok matches) = Ends matches RUN.now (RunIsDone whole)
IsDone whole (Err fault) = IsHelp fault

-- the command line names `run`, which can end with this status of an error
abbrev pub IsRefused : Whole → Result ArgMatches Error → ExitStatus → Type 0
IsRefused whole (Ok matches) status = Ends matches RUN.now (λ words. RunIsRefused whole words status)
IsRefused whole (Err fault) status = ⊥
