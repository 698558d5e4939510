-- The texts that a command reads by their names, up to one byte more than their limits, as far as they are known.
use Rattle.std.specs.Prelude.{ℕ, List, Option, None, Some}
use Rattle.clap.specs.declared.parser.matches.ArgMatches.{ArgMatches}
use Rattle.console.specs.Reading.{IsReadUpTo}
use Rattle.console.specs.declared.names.TheConstants.{PLAN}
use Rattle.tables.specs.Limits.{plan_limit_bytes}
use Rattle.value_command.specs.Words.{word_at}

-- for each name the whole text, if it is known
abbrev pub Whole : Type 0
Whole = List ℕ → Option (List ℕ)

-- the command line gives a name, and the bytes are read from the text of that name
abbrev pub IsNamedText : ℕ → Whole → Option (List ℕ) → List ℕ → Type 0
IsNamedText limit whole None bytes = ⊥
IsNamedText limit whole (Some name) bytes = IsReadUpTo limit (whole name) bytes

-- the bytes are read from the named plan
abbrev pub IsNamedPlan : Whole → ArgMatches → List ℕ → Type 0
IsNamedPlan whole matches plan = IsNamedText plan_limit_bytes whole (word_at matches PLAN.now) plan
