-- The first characters of a text, one by one.
use Rattle.std.proofs.Common.{◌≡◌, ◌≤◌, ℕ, suc, List, [], length, take, ◌++◌, IsUtf8, encode_utf8, encode_utf8_all, ap, ◌∙◌, arith}
use Rattle.std.specs.Str.{chars}
use Rattle.std.proofs.lemmas.List.{nil_from_length, take_all}
use Rattle.std.proofs.lemmas.Str.{chars-nil, chars_past_char}

pub first_step : (most : ℕ) (text rest : List ℕ) (character : ℕ) → IsUtf8 text → text ≡ encode_utf8 character ++ rest
    → encode_utf8_all (take (suc most) (chars text)) ≡ encode_utf8 character ++ encode_utf8_all (take most (chars rest))
first_step most text rest character utf8 parts = ap (λ all. encode_utf8_all (take (suc most) all)) (chars_past_char text rest character utf8 parts)

pub first_of_none : (most : ℕ) (text : List ℕ) → length text ≡ 0 → encode_utf8_all (take most (chars text)) ≡ []
first_of_none most text none =
    let nothing : chars text ≡ [] = ap chars (nil_from_length text none) ∙ chars-nil in
    let few : length (chars text) ≤ most = omega (arith, ap length nothing) in
    ap encode_utf8_all (take_all most (chars text) few ∙ nothing)
