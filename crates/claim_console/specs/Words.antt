-- The options of a parsed command line.
use Rattle.std.specs.Prelude.{◌≡◌, ◌<◌, ◌^◌, ℕ, true, List, Option, None, Some, codes}
use Rattle.std.specs.Option.{SomeIff}
use Rattle.std.specs.Str.Parse.{IsNumeral, digits_value, without_leading_plus}
use Rattle.clap.specs.declared.parser.matches.ArgMatches.{ArgMatches}
use Rattle.console.specs.declared.names.TheConstants.{BY_FILES, BY_SERVICE, CUTOFF, ORDER, STRICT, WORKERS}
use Rattle.journal.specs.declared.order.Order.{Order}
use Rattle.journal.specs.declared.order.Order.TheVariants.{Any, Files, Service}
use Rattle.value_command.specs.Words.{IsFlag, text_at, word_at}

-- the number that a text gives in decimal digits; none if there is no text
abbrev pub IsNumber : Option (List ℕ) → Option ℕ → Type 0
IsNumber None number = number ≡ None
IsNumber (Some text) number =
    let digits = without_leading_plus text in
    SomeIff number (IsNumeral 10 digits × (digits_value 10 digits < 2 ^ 64)) (digits_value 10 digits)

-- unknown keys are errors
abbrev pub IsStrict : ArgMatches → Type 0
IsStrict matches = IsFlag (text_at matches STRICT.now) true

-- the command line has the option `--strict`
abbrev pub AsksStrict : ArgMatches → Type 0
AsksStrict matches = text_at matches STRICT.now ≡ Some (codes "true")

-- at most this number of claims is accepted
abbrev pub IsCutoff : ArgMatches → Option ℕ → Type 0
IsCutoff matches cutoff = IsNumber (text_at matches CUTOFF.now) cutoff

-- the order that a word asks for; without a word claims are accepted in any order
pub record IsOrderOf (word : Option (List ℕ)) (order : Order) : Type 0 where
  pub by_files : word ≡ Some BY_FILES.now → order ≡ Files
  pub by_service : word ≡ Some BY_SERVICE.now → order ≡ Service
  pub absent : word ≡ None → order ≡ Any

-- claims are accepted in this order
abbrev pub IsOrder : ArgMatches → Order → Type 0
IsOrder matches order = IsOrderOf (word_at matches ORDER.now) order

-- this number of worker threads decides claims
abbrev pub IsWorkers : ArgMatches → ℕ → Type 0
IsWorkers matches workers = IsNumber (text_at matches WORKERS.now) (Some workers)
