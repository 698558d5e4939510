use Rattle.std.proofs.Common.{◌≡◌, flat_map, take}
use Rattle.explanation.specs.Refusals.{escape_of}
use Rattle.explanation.proofs.shown_field.escaped_bytes.Given as goal

-- the bytes so far are escaped
abbrev pub invariant-loop-byte : goal.invariant-loop-byte
invariant-loop-byte l = l.text.items ≡ flat_map escape_of (take l.byte-index l.bytes)
