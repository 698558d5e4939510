-- The size limit of a file.
use Rattle.std.specs.Prelude.{ℕ}

-- the greatest size of a file, in bytes
abbrev pub file_limit_bytes : ℕ
file_limit_bytes = 16777216
