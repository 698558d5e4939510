-- The texts that a run reads by their names, up to one byte more than their limits, as far as they are known.
use Rattle.std.specs.Prelude.{◌≡◌, ℕ, List, [], Option, None, Some, IsSomeAnd, map, option_map, unwrap_or}
use Rattle.std.specs.List.{All}
use Rattle.clap.specs.declared.parser.matches.ArgMatches.{ArgMatches}
use Rattle.console.specs.Reading.{AreReadUpTo, IsReadUpTo}
use Rattle.console.specs.declared.names.TheConstants.{BALANCES, FILE}
use Rattle.intake_csv.specs.Limits.{file_limit_bytes}
use Rattle.value_command.specs.Texts.{IsNamedPlan, Whole}
use Rattle.value_command.specs.Words.{word_at, words_at}
use Rattle.orders.specs.RunTexts.{RunTexts}
use Rattle.remarks.specs.Quotes.{EndsInQuotes}
use Rattle.claim_console.specs.declared.texts.Texts.{Texts}

-- the bytes are read from the text of the name, or there is neither a name nor a text
abbrev pub IsTextIfNamed : ℕ → Whole → Option (List ℕ) → Option (List ℕ) → Type 0
IsTextIfNamed limit whole None text = text ≡ None
IsTextIfNamed limit whole (Some name) text = IsSomeAnd text (IsReadUpTo limit (whole name))

-- the bytes are read from the named balances, if the command line names them
abbrev pub AreNamedBalances : Whole → ArgMatches → Option (List ℕ) → Type 0
AreNamedBalances whole matches balances = IsTextIfNamed file_limit_bytes whole (word_at matches BALANCES.now) balances

-- the bytes are read from the named files
abbrev pub AreNamedFiles : Whole → ArgMatches → List (List ℕ) → Type 0
AreNamedFiles whole matches files = AreReadUpTo file_limit_bytes whole (words_at matches FILE.now) files

-- the texts of a run with a cutoff
abbrev pub texts_at : Texts → Option ℕ → RunTexts
texts_at texts cutoff = record {
  plan = texts.plan.items;
  balances = option_map (λ b. b.items) texts.balances;
  files = map (λ f. f.items) texts.files.items;
  cutoff = cutoff;
}

-- the texts of a run are read from the named files
pub record HasNamedTexts (whole : Whole) (matches : ArgMatches) (texts : Texts) : Type 0 where
  pub plan : IsNamedPlan whole matches texts.plan.items
  pub balances : AreNamedBalances whole matches (option_map (λ b. b.items) texts.balances)
  pub files : AreNamedFiles whole matches (map (λ f. f.items) texts.files.items)

-- neither the balances nor a claim file end within a quoted field
pub record AreClosed (texts : Texts) : Type 0 where
  pub balances : ¬ EndsInQuotes (unwrap_or (option_map (λ b. b.items) texts.balances) [])
  pub files : All (λ file. ¬ EndsInQuotes file.items) texts.files.items
