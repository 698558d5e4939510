-- Texts that are safe to print on a terminal.
use Rattle.std.specs.Prelude.{ℕ, Bool, ◌||◌, ◌==◌, cond, List, map, encode_utf8_all}
use Rattle.std.specs.Char.{is_control}
use Rattle.std.specs.Int.{is_in_range}
use Rattle.std.specs.Str.{chars}

-- the soft hyphen, and the characters of Unicode that have no width or turn the direction of the text after them
abbrev pub is_hidden : ℕ → Bool
is_hidden character =
    character == 0xAD || character == 0x61C || is_in_range 0x200B 0x200F character || is_in_range 0x2028 0x202E character
    || is_in_range 0x2060 0x206F character || character == 0xFEFF

-- U+FFFD for a control character and for a hidden one, and any other character itself
abbrev pub shown_as : ℕ → ℕ
shown_as character = cond (is_control character || is_hidden character) 0xFFFD character

-- the UTF-8 bytes of a text in which each such character is replaced
abbrev pub shown_text : List ℕ → List ℕ
shown_text text = encode_utf8_all (map shown_as (chars text))
