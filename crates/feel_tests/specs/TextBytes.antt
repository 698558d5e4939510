-- The bytes that a text may have.
use Rattle.std.specs.Prelude.{ℕ, ◌≤◌, List, length, IsUtf8}
use Rattle.feel_tests.specs.Limits.{text_limit_bytes}

-- the length is within the limit of a text
abbrev pub IsShort : List ℕ → Type 0
IsShort bytes = length bytes ≤ text_limit_bytes

-- the bytes are a text: UTF-8 within the limit
abbrev pub IsText : List ℕ → Type 0
IsText bytes = IsUtf8 bytes × IsShort bytes
