-- Where the records of a CSV text end (RFC 4180, section 2), for any bytes.
use Rattle.std.specs.Prelude.{◌≡◌, ◌≤◌, ◌<◌, ◌+◌, ◌⊎◌, ℕ, ◌==◌, Bool, true, false, not, cond, ◌&&◌, List, length, take, slice_index, fold, count_by}
use Rattle.journal.specs.Lawful.{numbers_below}

-- the bytes `"` and LF
abbrev pub quote : ℕ
quote = 34

abbrev pub line_feed : ℕ
line_feed = 10

-- each quote begins or ends a quoted part
abbrev pub quoted_by : Bool → ℕ → Bool
quoted_by is_quoted byte = cond (byte == quote) (not is_quoted) is_quoted

-- the place after these bytes is within a quoted part
abbrev pub is_quoted_after : List ℕ → Bool
is_quoted_after bytes = fold quoted_by false bytes

-- a record of the text ends with the byte at this place: it is a line feed outside of quotes
abbrev pub ends_at : List ℕ → ℕ → Bool
ends_at text place = (slice_index text place == line_feed) && not (is_quoted_after (take place text))

-- no record ends within the text
abbrev pub HasNoEnd : List ℕ → Type 0
HasNoEnd text = (place : ℕ) → place < length text → ends_at text place ≡ false

-- the bytes are a whole record: it ends with the last of them, and not before
pub record IsRecord (bytes : List ℕ) : Type 0 where
  pub last : ℕ
  pub long : length bytes ≡ last + 1
  pub ends : ends_at bytes last ≡ true
  pub first : (place : ℕ) → place < last → ends_at bytes place ≡ false

-- the first record of a text has this number of bytes: they are a whole record, or all bytes of a text in which no record ends
pub record IsFirstRecord (text : List ℕ) (size : ℕ) : Type 0 where
  pub within : size ≤ length text
  pub whole : IsRecord (take size text) ⊎ ((size ≡ length text) × HasNoEnd text)

-- the number of whole records of a text
abbrev pub records_in : List ℕ → ℕ
records_in text = count_by (ends_at text) (numbers_below (length text))
