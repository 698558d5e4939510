-- The meaning of the exit statuses of the commands over claims.
use Rattle.std.specs.Prelude.{◌≡◌, ◌⊎◌}
use Rattle.clap.specs.declared.parser.matches.ArgMatches.{ArgMatches}
use Rattle.console.specs.declared.exit_status.ExitStatus.{ExitStatus}
use Rattle.console.specs.declared.exit_status.ExitStatus.TheVariants.{Refused}
use Rattle.console.specs.ExitStatus.{IsUnjudged}
use Rattle.value_command.specs.Ends.{IsStatusOf}
use Rattle.orders.specs.declared.stop.Stop.{Stop}
use Rattle.orders.specs.Stop.{status_of}
use Rattle.claim_console.specs.Words.{IsStrict}

-- some error has this reason, and this is its exit status
abbrev pub IsStatusOfRefusal : (Stop → Type 0) → ExitStatus → Type 0
IsStatusOfRefusal IsReason status = IsStatusOf status_of IsReason status

-- the status where unknown keys are searched for: there is one, or memory ran out
abbrev pub IsUnusedStatus : ExitStatus → Type 0
IsUnusedStatus status = IsUnjudged status ⊎ (status ≡ Refused)

-- the status of a run that has settled nothing: no input was judged, or `--strict` refuses unknown keys, or texts whose records may be lost
abbrev pub IsUnreadStatus : ArgMatches → ExitStatus → Type 0
IsUnreadStatus words status = IsUnjudged status ⊎ ((status ≡ Refused) × IsStrict words)
