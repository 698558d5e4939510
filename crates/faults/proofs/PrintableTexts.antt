-- The replacement of characters, one by one.
use Rattle.std.proofs.Common.{◌≡◌, ℕ, List, [], length, ◌++◌, map, IsUtf8, encode_utf8, encode_utf8_all, ap, ◌∙◌}
use Rattle.std.proofs.lemmas.Str.{chars-nil, chars_past_char}
use Rattle.std.proofs.lemmas.List.{nil_from_length}
use Rattle.faults.specs.Printable.{shown_as, shown_text}

-- the replacement of a text begins with the replacement of its first character
pub shown_step : (text rest : List ℕ) (character : ℕ) → IsUtf8 text → text ≡ encode_utf8 character ++ rest
    → shown_text text ≡ encode_utf8 (shown_as character) ++ shown_text rest
shown_step text rest character utf8 parts = ap (λ all. encode_utf8_all (map shown_as all)) (chars_past_char text rest character utf8 parts)

-- the replacement of an empty text is empty
pub shown_of_none : (text : List ℕ) → length text ≡ 0 → shown_text text ≡ []
shown_of_none text none = ap shown_text (nil_from_length text none) ∙ ap (λ all. encode_utf8_all (map shown_as all)) chars-nil
