use Rattle.std.proofs.Common.{◌≡◌, ◌∷◌, take}
use Rattle.std.specs.Prelude.{flat_map}
use Rattle.feel_tests.specs.Words.{escaped_byte}
use Rattle.feel_tests.proofs.literal.quote_text.Given as goal

abbrev pub invariant-loop-byte : goal.invariant-loop-byte
invariant-loop-byte l = l.literal.items ≡ 34 ∷ flat_map escaped_byte (take l.byte-index l.bytes)
