-- A search for quoted fields, after the first bytes of a text.
use Rattle.std.specs.Prelude.{◌≡◌, ◌<◌, ◌==◌, ◌||◌, ℕ, Bool, true, false, List, Option, Some, None, MatchOption, if◌then◌else◌}
use Rattle.csv.specs.Machine.{carriage_return, line_feed}
use Rattle.csv.specs.declared.parser.State.{State}
use Rattle.csv.specs.declared.parser.State.TheVariants as state
use Rattle.remarks.specs.declared.scan.Place.{Place}
use Rattle.remarks.specs.declared.scan.Place.TheVariants.{FieldStart, Unquoted, Quoted, AfterQuote}
use Rattle.remarks.specs.declared.scan.Scan.{Scan}
use Rattle.remarks.specs.Quotes.{BreaksField, IsFirstBroken, OpensLast, state_at}

-- the place of a reader in this state; a file has neither comments nor escapes
abbrev pub place_of : State → Option Place
place_of state.StartRecord = Some FieldStart
place_of state.StartField = Some FieldStart
place_of state.AfterCr = Some FieldStart
place_of state.InField = Some Unquoted
place_of state.InQuoted = Some Quoted
place_of state.AfterQuote = Some AfterQuote
place_of state.InEscape = None
place_of state.InComment = None

-- the place is after the opening quote of a field, and not after its end
abbrev pub is_in_quotes : Place → Bool
is_in_quotes FieldStart = false
is_in_quotes Unquoted = false
is_in_quotes Quoted = true
is_in_quotes AfterQuote = true

-- the place after a byte that is no quote, where no quoted field is open
abbrev pub place_after : ℕ → Place
place_after byte = if (byte == 44) || (byte == line_feed) || (byte == carriage_return) then FieldStart else Unquoted

-- no byte before the end is a line end within a quoted field
abbrev pub IsUnbroken : List ℕ → ℕ → Type 0
IsUnbroken text end = (at : ℕ) → at < end → ¬ BreaksField text at

-- what a search has found in the bytes before the end
pub record IsScanned (text : List ℕ) (end : ℕ) (scan : Scan) : Type 0 where
  pub place : place_of (state_at text end) ≡ Some scan.place
  pub opened : is_in_quotes scan.place ≡ true → OpensLast text end scan.opened
  pub broken : MatchOption scan.first_long (IsUnbroken text end) (IsFirstBroken text)
