-- The words of a cell's text (DMN 1.4, S-FEEL, the grammar's terminals). White space separates
-- them, and each word is the longest that the text begins with.
use Rattle.std.specs.Prelude.{◌≡◌, ℕ, ◌≤◌, Bool, ◌==◌, ◌||◌, if◌then◌else◌, List, [], ◌∷◌, ◌++◌, length, codes, flat_map, IsTrue}
use Rattle.std.specs.List.{list_all}
use Rattle.std.specs.Char.{is_ascii_alphabetic, is_ascii_alphanumeric}
use Rattle.fixpoint.specs.NumberText.{IsNumberText}
use Rattle.feel_tests.specs.declared.symbol.Symbol.{Symbol}
use Rattle.feel_tests.specs.declared.symbol.Symbol.TheVariants.{Less, AtMost, More, AtLeast, OpenRound, CloseRound, OpenSquare, CloseSquare, Dots, Comma, Dash}

-- a space, tab, carriage return or line feed
abbrev pub is_white : ℕ → Bool
is_white b = (b == 32) || (b == 9) || (b == 13) || (b == 10)

-- the text without leading white space
abbrev pub skip_white : List ℕ → List ℕ
skip_white [] = []
skip_white (b ∷ bs) = if is_white b then skip_white bs else b ∷ bs

-- the text consists of white space alone
abbrev pub IsBlank : List ℕ → Type 0
IsBlank text = skip_white text ≡ []

-- the bytes of a symbol
abbrev pub symbol_text : Symbol → List ℕ
symbol_text Less = codes "<"
symbol_text AtMost = codes "<="
symbol_text More = codes ">"
symbol_text AtLeast = codes ">="
symbol_text OpenRound = codes "("
symbol_text CloseRound = codes ")"
symbol_text OpenSquare = codes "["
symbol_text CloseSquare = codes "]"
symbol_text Dots = codes ".."
symbol_text Comma = codes ","
symbol_text Dash = codes "-"

-- an ASCII letter or `_`
abbrev pub is_name_start : ℕ → Bool
is_name_start b = is_ascii_alphabetic b || (b == 95)

-- an ASCII letter, a digit or `_`
abbrev pub is_name_byte : ℕ → Bool
is_name_byte b = is_ascii_alphanumeric b || (b == 95)

-- a name: a letter or `_`, followed by letters, digits and `_`
abbrev pub IsName : List ℕ → Type 0
IsName [] = ⊥
IsName (b ∷ bs) = IsTrue (is_name_start b) × IsTrue (list_all is_name_byte bs)

-- a byte between quotes: a backslash precedes a quote and a backslash
abbrev pub escaped_byte : ℕ → List ℕ
escaped_byte b = if (b == 34) || (b == 92) then 92 ∷ b ∷ [] else b ∷ []

-- the bytes between the quotes of a string
abbrev pub escaped : List ℕ → List ℕ
escaped bytes = flat_map escaped_byte bytes

-- a string: a text in double quotes
abbrev pub quote_text : List ℕ → List ℕ
quote_text bytes = 34 ∷ (escaped bytes ++ 34 ∷ [])

-- a word: a symbol, a number by its bytes, a string by the text that it denotes, or a name
pub data Word : Type 0 where
  Sign : Symbol → Word
  Digits : List ℕ → Word
  Quoted : List ℕ → Word
  Name : List ℕ → Word

-- these bytes are the word
abbrev pub Spells : List ℕ → Word → Type 0
Spells bytes (Sign symbol) = bytes ≡ symbol_text symbol
Spells bytes (Digits digits) = (bytes ≡ digits) × IsNumberText bytes
Spells bytes (Quoted text) = bytes ≡ quote_text text
Spells bytes (Name letters) = (bytes ≡ letters) × IsName bytes

-- after white space, the text begins with the word, and no longer word is possible there; then the
-- rest follows
pub record Begins (text : List ℕ) (word : Word) (rest : List ℕ) : Type 0 where
  pub front : List ℕ
  pub joined : skip_white text ≡ front ++ rest
  pub spelled : Spells front word
  pub longest : (other after : List ℕ) (longer : Word) → skip_white text ≡ other ++ after → Spells other longer → length other ≤ length front
