-- What the exit statuses of the commands say that show a plan.
use Rattle.std.specs.Prelude.{◌⊎◌, ℕ, List}
use Rattle.clap.specs.declared.parser.matches.ArgMatches.{ArgMatches}
use Rattle.tables.specs.Plan.{PlanParts}
use Rattle.dtable.specs.PlanFile.{IsPlanText}
use Rattle.evaluation.specs.Stop.{IsPlanReason}
use Rattle.console.specs.declared.exit_status.ExitStatus.{ExitStatus}
use Rattle.value_command.specs.Ends.{IsStatusOfRefusal}
use Rattle.console.specs.declared.names.TheConstants.{OLD}
use Rattle.tables.specs.Limits.{plan_limit_bytes}
use Rattle.value_command.specs.Texts.{IsNamedPlan, IsNamedText, Whole}
use Rattle.value_command.specs.Words.{word_at}

-- the text denotes a plan
pub record DenotesPlan (text : List ℕ) : Type 0 where
  pub plan : PlanParts
  pub spelled : IsPlanText text plan

-- a command that shows the named plan can end with `Done`: its text denotes one
pub record PageIsDone (whole : Whole) (words : ArgMatches) : Type 0 where
  pub plan : List ℕ
  pub named : IsNamedPlan whole words plan
  pub denotes : DenotesPlan plan

-- a command that shows the named plan can end with this status: an error of the plan's text has it
pub record PageIsRefused (whole : Whole) (words : ArgMatches) (status : ExitStatus) : Type 0 where
  pub plan : List ℕ
  pub named : IsNamedPlan whole words plan
  pub refused : IsStatusOfRefusal (IsPlanReason plan) status

-- the bytes are read from the named old plan
abbrev pub IsNamedOld : Whole → ArgMatches → List ℕ → Type 0
IsNamedOld whole words old = IsNamedText plan_limit_bytes whole (word_at words OLD.now) old

-- an error of the text of the named old plan has this status
pub record IsOldRefused (whole : Whole) (words : ArgMatches) (status : ExitStatus) : Type 0 where
  pub old : List ℕ
  pub named : IsNamedOld whole words old
  pub refused : IsStatusOfRefusal (IsPlanReason old) status

-- an error of the plan's text, or of the text of the named old plan, has this status
abbrev pub IsRefusedBeside : Whole → ArgMatches → List ℕ → ExitStatus → Type 0
IsRefusedBeside whole words plan status = IsStatusOfRefusal (IsPlanReason plan) status ⊎ IsOldRefused whole words status

-- `show` can end with this status: an error of the named plan's text has it, or one of the old plan beside it
abbrev pub PageIsRefusedBeside : Whole → ArgMatches → ExitStatus → Type 0
PageIsRefusedBeside whole words status = PageIsRefused whole words status ⊎ IsOldRefused whole words status
