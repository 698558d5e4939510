-- The quoted fields of a text of CSV (RFC 4180, section 2), by the states in which `csv` reads it.
use Rattle.std.specs.Prelude.{◌≡◌, ◌<◌, ◌⊎◌, ℕ, Bool, true, false, List, [], ◌∷◌, get_or, length, take}
use Rattle.csv.specs.Machine.{carriage_return, line_feed, step}
use Rattle.csv.specs.Reading.{default_config, strip_bom}
use Rattle.csv.specs.declared.parser.State.{State}
use Rattle.csv.specs.declared.parser.State.TheVariants as state

-- the byte that opens and closes a quoted field
abbrev pub quote : ℕ
quote = 34

-- the byte at an index; 0 beyond the text
abbrev pub byte_at : List ℕ → ℕ → ℕ
byte_at text at = get_or text at 0

-- the state of a reader after a text that it reads from a state on
unfoldable pub state_after : State → List ℕ → State
state_after from [] = from
state_after from (byte ∷ rest) = state_after (step default_config from byte).0 rest

-- the state of a reader before the byte at an index
abbrev pub state_at : List ℕ → ℕ → State
state_at text at = state_after state.StartRecord (take at text)

-- a field begins in this state, so that a quote opens it
abbrev pub begins_field : State → Bool
begins_field state.StartRecord = true
begins_field state.StartField = true
begins_field state.AfterCr = true
begins_field state.InField = false
begins_field state.InQuoted = false
begins_field state.AfterQuote = false
begins_field state.InEscape = false
begins_field state.InComment = false

-- the byte at the index opens a quoted field
pub record OpensField (text : List ℕ) (at : ℕ) : Type 0 where
  pub is_quote : byte_at text at ≡ quote
  pub begins : begins_field (state_at text at) ≡ true

-- the byte at the index opens a quoted field, and no later one before the end does
pub record OpensLast (text : List ℕ) (end at : ℕ) : Type 0 where
  pub opens : OpensField text at
  pub before : at < end
  pub last : (later : ℕ) → at < later → later < end → ¬ OpensField text later

-- the text ends within the quoted field that the byte at the index opens
pub record IsOpenAt (text : List ℕ) (at : ℕ) : Type 0 where
  pub opens : OpensLast text (length text) at
  pub quoted : state_after state.StartRecord text ≡ state.InQuoted

-- the text of a file ends within a quoted field
abbrev pub EndsInQuotes : List ℕ → Type 0
EndsInQuotes text = state_after state.StartRecord (strip_bom text) ≡ state.InQuoted

-- the byte ends a line
abbrev pub EndsLine : ℕ → Type 0
EndsLine byte = (byte ≡ line_feed) ⊎ (byte ≡ carriage_return)

-- the byte at the index is a line end within a quoted field
pub record BreaksField (text : List ℕ) (at : ℕ) : Type 0 where
  pub ends_line : EndsLine (byte_at text at)
  pub quoted : state_at text at ≡ state.InQuoted

-- the byte at the index opens the quoted field with the first line end within quotes
pub record IsFirstBroken (text : List ℕ) (at : ℕ) : Type 0 where
  pub break : ℕ
  pub breaks : BreaksField text break
  pub first : (earlier : ℕ) → earlier < break → ¬ BreaksField text earlier
  pub opens : OpensLast text break at
