-- Lines and columns of a text.
use Rattle.std.specs.Prelude.{◌≡◌, ℕ, Bool, true, not, nat_eq, bit_and, List, [], ◌∷◌, ◌++◌, ◌+◌, ◌⊎◌}
use Rattle.std.specs.List.{count_by, list_all}
use Rattle.diagnostics.specs.declared.position.Position.{Position}

-- a byte that ends a line
abbrev pub is_line_feed : ℕ → Bool
is_line_feed byte = nat_eq byte 10

-- a byte that begins a character: in UTF-8 each further byte of a character begins with the bits 10
abbrev pub begins_character : ℕ → Bool
begins_character byte = not (nat_eq (bit_and byte 0xC0) 0x80)

-- the text is empty or ends with a line feed
abbrev pub AreWholeLines : List ℕ → Type 0
AreWholeLines text = (text ≡ []) ⊎ ((front : List ℕ) × (text ≡ front ++ (10 ∷ [])))

-- the text has no line feed
abbrev pub IsOneLine : List ℕ → Type 0
IsOneLine text = list_all (λ byte. not (is_line_feed byte)) text ≡ true

-- the place after a text: its line is one more than the number of line feeds, and its column is one more than the number of characters after the last
-- line feed
pub record IsAfter (text : List ℕ) (position : Position) : Type 0 where
  pub lines : List ℕ
  pub begun : List ℕ
  pub text_is : text ≡ lines ++ begun
  pub lines_are : AreWholeLines lines
  pub begun_is : IsOneLine begun
  pub line : position.line ≡ 1 + count_by is_line_feed text
  pub column : position.column ≡ 1 + count_by begins_character begun
