-- The options of a parsed command line.
use Rattle.std.specs.Prelude.{◌≡◌, true, Some, codes}
use Rattle.clap.specs.declared.parser.matches.ArgMatches.{ArgMatches}
use Rattle.console.specs.declared.names.TheConstants.{FAIL}
use Rattle.value_command.specs.Words.{IsFlag, text_at}

-- the status is that of an error where anything is reported
abbrev pub IsFail : ArgMatches → Type 0
IsFail matches = IsFlag (text_at matches FAIL.now) true

-- the command line has the option `--fail`
abbrev pub AsksFail : ArgMatches → Type 0
AsksFail matches = text_at matches FAIL.now ≡ Some (codes "true")
