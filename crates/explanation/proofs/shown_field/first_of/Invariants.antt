use Rattle.std.proofs.Common.{◌≡◌, ◌-◌, ◌++◌, IsUtf8, encode_utf8_all, string_bytes, take}
use Rattle.std.specs.Str.{chars}
use Rattle.std.specs.Str.Iter.{chars_rest}
use Rattle.explanation.proofs.shown_field.first_of.Given as goal

-- the characters so far, and then as many of the others as are still wanted
abbrev pub invariant-loop : goal.invariant-loop
invariant-loop l = IsUtf8 (chars_rest l.characters)
    × (string_bytes l.first ++ encode_utf8_all (take (l.fn.most - l.counter) (chars (chars_rest l.characters))) ≡ encode_utf8_all (take l.fn.most (chars l.text)))
