-- The limits of cells and texts.
use Rattle.std.specs.Prelude.{ℕ}

-- the greatest number of tests in a cell
abbrev pub test_limit : ℕ
test_limit = 64

-- the greatest length of a text, in bytes
abbrev pub text_limit_bytes : ℕ
text_limit_bytes = 256
