use Rattle.std.proofs.Common.{◌≡◌, ◌++◌, IsUtf8, string_bytes}
use Rattle.std.specs.Str.Iter.{chars_rest}
use Rattle.faults.specs.Printable.{shown_text}
use Rattle.faults.proofs.printable.push_printable.Given as goal

abbrev pub invariant-loop-character : goal.invariant-loop-character
invariant-loop-character l = IsUtf8 (chars_rest l.character-iterator)
    × (string_bytes l.text ++ shown_text (chars_rest l.character-iterator) ≡ string_bytes l.initial.text ++ shown_text l.fn.words)
