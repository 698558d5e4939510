-- The place after a text when the text grows by one byte.
use Rattle.std.proofs.Common.{◌≡◌, ◌≢◌, ℕ, ◌+◌, ◌<◌, Bool, false, not, bit_and, cond, add-one, add-zero, List, [], ◌∷◌, ◌++◌, take, get_or, length, ◌∙◌, ap, sym, inr, refl, arith}
use Rattle.std.specs.List.{count_by}
use Rattle.std.proofs.Math.Seq.{take-suc}
use Rattle.std.proofs.lemmas.Bool.Decides.{nat_tests}
use Rattle.std.proofs.lemmas.List.{append_assoc, append-nil}
use Rattle.std.proofs.lemmas.List.Sums.{sum_by-append}
use Rattle.std.proofs.lemmas.List.Folds.{list_all-append}
use Rattle.diagnostics.specs.Position.{IsAfter, is_line_feed, begins_character}

-- a further byte is counted if it satisfies the condition
count_more : (p : ℕ → Bool) (text : List ℕ) (byte : ℕ) (more : ℕ) → cond (p byte) 1 0 ≡ more → count_by p (text ++ (byte ∷ [])) ≡ count_by p text + more
count_more p text byte more counted = grind (arith, sum_by-append (λ x. cond (p x) 1 0) text (byte ∷ []), counted)

-- a line feed
ends_line : (text : List ℕ) (byte line column : ℕ) → byte ≡ 10 → IsAfter text (record { line = line; column = column })
    → IsAfter (text ++ (byte ∷ [])) (record { line = line + 1; column = 1 })
ends_line text byte line column is_end known = record {
  lines = text ++ (byte ∷ []);
  begun = [];
  text_is = sym (append-nil (text ++ (byte ∷ [])));
  lines_are = inr (text, ap (λ it. text ++ (it ∷ [])) is_end);
  begun_is = refl;
  line = omega (arith, count_more is_line_feed text byte 1 (grind (arith, nat_tests, is_end)), known.line);
  column = refl;
}

-- any other byte, which begins or continues a character
goes_on : (text : List ℕ) (byte line column more : ℕ) → is_line_feed byte ≡ false → cond (begins_character byte) 1 0 ≡ more
    → IsAfter text (record { line = line; column = column }) → IsAfter (text ++ (byte ∷ [])) (record { line = line; column = column + more })
goes_on text byte line column more other counted known = record {
  lines = known.lines;
  begun = known.begun ++ (byte ∷ []);
  text_is = ap (λ front. front ++ (byte ∷ [])) known.text_is ∙ append_assoc known.lines known.begun (byte ∷ []);
  lines_are = known.lines_are;
  begun_is = list_all-append (λ it. not (is_line_feed it)) known.begun (byte ∷ []) ∙ grind (arith, known.begun_is, other);
  line = omega (arith, count_more is_line_feed text byte 0 (grind (arith, other)), known.line);
  column = omega (arith, count_more begins_character known.begun byte more counted, known.column);
}

-- the first bytes of a text, with one more
take_more : (text : List ℕ) (place : ℕ) → place < length text → take (place + 1) text ≡ take place text ++ (get_or text place 0 ∷ [])
take_more text place within = rw (add-one place) (take-suc text place 0 within)

-- a byte of a text ends a line
pub byte_ends_line : (text : List ℕ) (place line column next first : ℕ) → IsAfter (take place text) (record { line = line; column = column }) → place < length text
    → get_or text place 0 ≡ 10 → next ≡ line + 1 → first ≡ 1 → IsAfter (take (place + 1) text) (record { line = next; column = first })
byte_ends_line text place line column next first known within is_end next_is first_is =
    rw (take_more text place within, next_is, first_is) (ends_line (take place text) (get_or text place 0) line column is_end known)

-- the byte begins a character
pub byte_begins : (text : List ℕ) (place line column same next : ℕ) → IsAfter (take place text) (record { line = line; column = column }) → place < length text
    → get_or text place 0 ≢ 10 → bit_and (get_or text place 0) 0xC0 ≢ 0x80 → same ≡ line → next ≡ column + 1
    → IsAfter (take (place + 1) text) (record { line = same; column = next })
byte_begins text place line column same next known within other is_first same_is next_is =
    rw (take_more text place within, same_is, next_is)
    (goes_on (take place text) (get_or text place 0) line column 1 (grind (arith, nat_tests, other)) (grind (arith, nat_tests, is_first)) known)

-- the byte continues a character
pub byte_goes_on : (text : List ℕ) (place line column same still : ℕ) → IsAfter (take place text) (record { line = line; column = column }) → place < length text
    → get_or text place 0 ≢ 10 → bit_and (get_or text place 0) 0xC0 ≡ 0x80 → same ≡ line → still ≡ column
    → IsAfter (take (place + 1) text) (record { line = same; column = still })
byte_goes_on text place line column same still known within other goes same_is still_is =
    rw (take_more text place within, same_is, still_is ∙ sym (add-zero column))
    (goes_on (take place text) (get_or text place 0) line column 0 (grind (arith, nat_tests, other)) (grind (arith, nat_tests, goes)) known)
