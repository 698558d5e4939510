-- What the forms of a command's arguments say.
use Rattle.std.specs.Prelude.{◌∷◌, [], ℕ, List, if◌then◌else◌}
use Rattle.std.specs.Str.{bytes_eq}
use Rattle.clap.specs.declared.builder.value_parser.ValueParser.{ValueParser}
use Rattle.clap.specs.declared.builder.value_parser.ValueParser.TheVariants.{Names, String, Unsigned}
use Rattle.console.specs.declared.arguments.Argument.{Argument}
use Rattle.console.specs.declared.arguments.Takes.{Takes}
use Rattle.console.specs.declared.arguments.Takes.TheVariants.{Number, Words, Workers, Width}
use Rattle.console.specs.Limits.{least_width, width_limit}

-- the parser of what an argument takes, where the limit of worker threads is the given number
abbrev pub parser_for : ℕ → Takes → ValueParser
parser_for workers (Number least greatest) = Unsigned least greatest
parser_for workers (Words words) = Names words
parser_for workers Workers = Unsigned 1 workers
parser_for workers Width = Unsigned least_width width_limit
parser_for workers _ = String

-- the parser of the first argument with this name
abbrev pub parser_in : ℕ → List ℕ → List Argument → ValueParser
parser_in workers name [] = String
parser_in workers name (form ∷ forms) =
    if bytes_eq form.name.now name then parser_for workers form.takes else parser_in workers name forms

-- the names of the required arguments
abbrev pub required_in : List Argument → List (List ℕ)
required_in [] = []
required_in (form ∷ forms) = if form.is_required then form.name.now ∷ required_in forms else required_in forms
