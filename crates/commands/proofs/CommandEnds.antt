-- A command line ends as the command over a plan alone that it names.
use Rattle.std.proofs.Common.{◌≡◌, inr}
use Rattle.clap.specs.declared.parser.matches.ArgMatches.{ArgMatches}
use Rattle.console.specs.declared.exit_status.ExitStatus.{ExitStatus}
use Rattle.console.specs.declared.exit_status.ExitStatus.TheVariants.{Done, Refused}
use Rattle.value_command.specs.Texts.{Whole}
use Rattle.plan_commands.specs.Ends.{PlanCommandIsDone, PlanCommandIsRefused}
use Rattle.commands.specs.Ends.{CommandIsDone, CommandIsRefused}

pub plan_ends : (whole : Whole) (matches : ArgMatches) (status : ExitStatus) → (status ≡ Done → PlanCommandIsDone whole matches) → status ≡ Done → CommandIsDone whole matches
plan_ends whole matches status done is_done = inr (inr (inr (inr (inr (done is_done)))))

pub plan_ends_refused : (whole : Whole) (matches : ArgMatches) (status : ExitStatus) → (status ≡ Refused → PlanCommandIsRefused whole matches status) → status ≡ Refused
    → CommandIsRefused whole matches status
plan_ends_refused whole matches status refused is_refused = inr (inr (inr (inr (inr (refused is_refused)))))
