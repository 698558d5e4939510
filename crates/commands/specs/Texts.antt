-- The remittance that an audit reads by its name.
use Rattle.std.specs.Prelude.{◌-◌, ◌^◌, ℕ, List}
use Rattle.clap.specs.declared.parser.matches.ArgMatches.{ArgMatches}
use Rattle.console.specs.declared.names.TheConstants.{REMITTANCE}
use Rattle.value_command.specs.Texts.{IsNamedText, Whole}
use Rattle.value_command.specs.Words.{word_at}

-- the bytes are read from the named remittance, which may have any length
abbrev pub IsNamedRemittance : Whole → ArgMatches → List ℕ → Type 0
IsNamedRemittance whole matches remittance = IsNamedText (2 ^ 64 - 1) whole (word_at matches REMITTANCE.now) remittance
