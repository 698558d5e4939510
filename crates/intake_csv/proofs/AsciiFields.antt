-- The fields of an ASCII record are UTF-8.
use Rattle.std.proofs.Common.{◌≡◌, ◌+◌, ◌-◌, ◌∷◌, [], ℕ, zero, suc, List, Some, IsUtf8, take, drop, arith, get_or-drop}
use Rattle.std.proofs.lemmas.Str.{IsUtf8-from_ascii}
use Rattle.std.specs.Str.{IsAscii}
use Rattle.csv.specs.Records.{AllText, Row, cut_from, field_at, fields_of, text_of}

ascii-take : (n : ℕ) (l : List ℕ) → IsAscii l → IsAscii (take n l)
ascii-take zero l h i = omega arith
ascii-take (suc n) [] h i = omega arith
ascii-take (suc n) (x ∷ xs) h zero = h 0
ascii-take (suc n) (x ∷ xs) h (suc i) = ascii-take n xs (λ j. h (suc j)) i

ascii-parts : (start : ℕ) (ends bytes : List ℕ) → IsAscii bytes → AllText (cut_from start ends bytes)
unfolding AllText cut_from
ascii-parts start [] bytes h = tt
ascii-parts start (end ∷ ends) bytes h =
    let rest : IsAscii (drop start bytes) = λ i. rw (get_or-drop start bytes i 0) (h (start + i)) in
    (IsUtf8-from_ascii _ (ascii-take (end - start) _ rest), ascii-parts end ends bytes h)

-- each field is UTF-8
pub ascii-fields : (row : Row) → IsAscii (text_of row) → AllText (fields_of row)
ascii-fields row h = ascii-parts 0 row.ends row.bytes h

-- the field at a place is UTF-8 if all fields are
pub text_at : (fields : List (List ℕ)) (place : ℕ) (field : List ℕ) → AllText fields → field_at fields place ≡ Some field → IsUtf8 field
unfolding AllText field_at
text_at [] place field texts there = cc there
text_at (f ∷ fs) zero field texts there = let same : f ≡ field = cc there in rw same at texts.0
text_at (f ∷ fs) (suc place) field texts there = text_at fs place field texts.1 there
