-- The length of the leading name: these bytes are a name, and no longer start of the text is one.
use Rattle.std.proofs.Common.{◌≡◌, ℕ, suc, ◌+◌, ◌<◌, ◌≤◌, Bool, true, false, cond, List, [], ◌∷◌, ◌++◌, length, take, refl, arith}
use Rattle.std.specs.List.{prefix_len, list_all}
use Rattle.std.proofs.lemmas.Bool.{and_parts}
use Rattle.feel_tests.specs.Words.{is_name_start, is_name_byte, IsName}
use Rattle.feel_tests.specs.Fronts.{name_len}

pass_most : (bs after : List ℕ) → list_all is_name_byte bs ≡ true → length bs ≤ prefix_len is_name_byte (bs ++ after)
pass_most [] after h = omega arith
pass_most (b ∷ bs) after h =
    let parts = and_parts (is_name_byte b) (list_all is_name_byte bs) h in
    let more = pass_most bs after parts.1 in
    rw parts.0 (omega (arith, more))

pub name_most : (other after : List ℕ) → IsName other → length other ≤ name_len (other ++ after)
name_most [] after h = absurd h
name_most (b ∷ bs) after h =
    let more = pass_most bs after h.1 in
    let start : is_name_start b ≡ true = h.0 in
    rw start (omega (arith, more))

pass_take_at : (b : ℕ) (bs : List ℕ) (t : Bool) → is_name_byte b ≡ t → list_all is_name_byte (take (prefix_len is_name_byte bs) bs) ≡ true → list_all is_name_byte (take (cond t (1 + prefix_len is_name_byte bs) 0) (b ∷ bs)) ≡ true
pass_take_at b bs true e h = let k : 1 + prefix_len is_name_byte bs ≡ suc (prefix_len is_name_byte bs) = omega arith in rw (k, e) h
pass_take_at b bs false e h = refl

pass_take : (bs : List ℕ) → list_all is_name_byte (take (prefix_len is_name_byte bs) bs) ≡ true
pass_take [] = refl
pass_take (b ∷ bs) = pass_take_at b bs (is_name_byte b) refl (pass_take bs)

name_is_at : (b : ℕ) (bs : List ℕ) (t : Bool) → is_name_start b ≡ t → 0 < cond t (1 + prefix_len is_name_byte bs) 0 → IsName (take (cond t (1 + prefix_len is_name_byte bs) 0) (b ∷ bs))
name_is_at b bs true e h = let k : 1 + prefix_len is_name_byte bs ≡ suc (prefix_len is_name_byte bs) = omega arith in rw k (e, pass_take bs)
name_is_at b bs false e h = absurd (omega arith)

pub name_is : (bytes : List ℕ) → 0 < name_len bytes → IsName (take (name_len bytes) bytes)
name_is [] h = absurd (omega arith)
name_is (b ∷ bs) h = name_is_at b bs (is_name_start b) refl h

-- a name is not empty
pub name_some : (other : List ℕ) → IsName other → 0 < length other
name_some [] h = absurd h
name_some (b ∷ bs) h = omega arith
