-- The options of a check.
use Rattle.std.specs.Prelude.{Bool, true, false}
use Rattle.clap.specs.declared.parser.matches.ArgMatches.{ArgMatches}
use Rattle.console.specs.declared.names.TheConstants.{ERRORS_ONLY, WHOLE}
use Rattle.value_command.specs.Words.{IsFlag, text_at}
use Rattle.check_report.specs.declared.check.report.Findings.{Findings}
use Rattle.check_report.specs.declared.check.report.Findings.TheVariants.{All, Errors}

-- all tables of a plan are checked together, or each one alone
abbrev pub IsWhole : ArgMatches → Bool → Type 0
IsWhole matches whole = IsFlag (text_at matches WHOLE.now) whole

-- only violations of a hit policy are listed
abbrev pub is_errors_only : Findings → Bool
is_errors_only All = false
is_errors_only Errors = true

-- these are the gaps and overlaps that a check lists
abbrev pub IsFindings : ArgMatches → Findings → Type 0
IsFindings matches findings = IsFlag (text_at matches ERRORS_ONLY.now) (is_errors_only findings)
