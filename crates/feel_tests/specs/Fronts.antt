-- Results of the private functions that split a word off a text.
use Rattle.std.specs.Prelude.{ℕ, ◌+◌, ◌==◌, ◌&&◌, nat_lt, if◌then◌else◌, List, [], ◌∷◌, drop, ◌≡◌, ◌++◌}
use Rattle.std.specs.List.{prefix_len}
use Rattle.std.specs.Char.{is_ascii_digit}
use Rattle.feel_tests.specs.Words.{Word, Sign, Digits, Name, Begins, skip_white, escaped_byte, is_name_start, is_name_byte}
use Rattle.feel_tests.specs.declared.strings.Piece.{Piece}
use Rattle.feel_tests.specs.declared.strings.Piece.TheVariants as pieces
use Rattle.feel_tests.specs.declared.word.Token.{Token}
use Rattle.feel_tests.specs.declared.word.Token.TheVariants as tokens

-- the text begins neither with a byte of a string nor with its closing quote
pub record IsNoPiece (text : List ℕ) : Type 0 where
  pub no_byte : (byte : ℕ) (rest : List ℕ) → ¬ (text ≡ escaped_byte byte ++ rest)
  pub no_quote : (rest : List ℕ) → ¬ (text ≡ 34 ∷ rest)

-- the number of leading digits
abbrev pub digits_len : List ℕ → ℕ
digits_len bytes = prefix_len is_ascii_digit bytes

-- the length of a leading dot with digits after it, or 0
abbrev pub fraction_len : List ℕ → ℕ
fraction_len [] = 0
fraction_len (b ∷ bs) = if (b == 46) && nat_lt 0 (digits_len bs) then 1 + digits_len bs else 0

-- the length of leading digits and of a dot with digits after them
abbrev pub unsigned_len : List ℕ → ℕ
unsigned_len bytes = digits_len bytes + fraction_len (drop (digits_len bytes) bytes)

-- the length of the number text that the bytes begin with, or 0
abbrev pub number_len : List ℕ → ℕ
number_len [] = 0
number_len (b ∷ bs) = if b == 45 then (if nat_lt 0 (unsigned_len bs) then 1 + unsigned_len bs else 0) else unsigned_len (b ∷ bs)

-- the length of the name that the bytes begin with, or 0
abbrev pub name_len : List ℕ → ℕ
name_len [] = 0
name_len (b ∷ bs) = if is_name_start b then 1 + prefix_len is_name_byte bs else 0

-- the token is the first word of the text after white space; for a string, it is its opening quote
abbrev pub IsToken : List ℕ → Token → Type 0
IsToken text (tokens.Sign symbol rest) = Begins text (Sign symbol) rest.now
IsToken text (tokens.Number digits rest) = Begins text (Digits digits.now) rest.now
IsToken text (tokens.Name letters rest) = Begins text (Name letters.now) rest.now
IsToken text (tokens.Quote inside) = skip_white text ≡ 34 ∷ inside.now
IsToken text tokens.Nothing = (word : Word) (rest : List ℕ) → ¬ Begins text word rest

-- the piece is the next byte of a string without its escape, or the closing quote, or there is
-- neither
abbrev pub IsPiece : List ℕ → Piece → Type 0
IsPiece text (pieces.Close rest) = text ≡ 34 ∷ rest.now
IsPiece text (pieces.Byte byte rest) = text ≡ escaped_byte byte ++ rest.now
IsPiece text pieces.BadEscape = IsNoPiece text
IsPiece text pieces.End = IsNoPiece text
