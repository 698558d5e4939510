-- The values of a parsed command line.
use Rattle.std.specs.Prelude.{◌≡◌, ℕ, Bool, true, false, List, [], Option, None, Some, codes, option_map, unwrap_or}
use Rattle.clap.specs.Words.{found_of, first_value, matched_of, one_text, raw_values, rows_of, subcommand_name_of, subcommand_rows_of}
use Rattle.clap.specs.declared.parser.matches.ArgMatches.{ArgMatches}

-- the value of an argument, if it has one
abbrev pub word_at : ArgMatches → List ℕ → Option (List ℕ)
word_at matches name = first_value (found_of matches) name

-- all values of an argument
abbrev pub words_at : ArgMatches → List ℕ → List (List ℕ)
words_at matches name = unwrap_or (option_map raw_values (matched_of (found_of matches) name)) []

-- the text of an option, if it has one
abbrev pub text_at : ArgMatches → List ℕ → Option (List ℕ)
text_at matches name = one_text (found_of matches) name

-- a flag is set by the text `true`; by `false`, or without a text, it is not set
pub record IsFlag (text : Option (List ℕ)) (flag : Bool) : Type 0 where
  pub set : text ≡ Some (codes "true") → flag ≡ true
  pub unset : text ≡ Some (codes "false") → flag ≡ false
  pub absent : text ≡ None → flag ≡ false

-- the command line names this command, with these words after the name
pub record IsCommand (matches : ArgMatches) (name : List ℕ) (words : ArgMatches) : Type 0 where
  pub named : subcommand_name_of matches ≡ Some name
  pub following : option_map (λ p. p.1) (subcommand_rows_of matches) ≡ Some (rows_of (found_of words))
