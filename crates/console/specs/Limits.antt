-- The limits of the values of the command line.
use Rattle.std.specs.Prelude.{◌≡◌, ℕ, List, map}
use Rattle.clap.specs.declared.builder.value_parser.ValueParser.{ValueParser}
use Rattle.clap.specs.declared.builder.value_parser.ValueParser.TheVariants.{Names}

-- the greatest value of `--cutoff`
abbrev pub cutoff_limit : ℕ
cutoff_limit = 1000000000

-- the least and the greatest value of `--width`
abbrev pub least_width : ℕ
least_width = 20

abbrev pub width_limit : ℕ
width_limit = 1000

-- the parser takes these words, and no other
abbrev pub TakesWords : List (List ℕ) → ValueParser → Type 0
TakesWords words (Names names) = map (λ name. name.now) names.now ≡ words
TakesWords words _ = ⊥
