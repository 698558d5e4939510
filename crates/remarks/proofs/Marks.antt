-- A text without the byte order mark at its start.
use Rattle.std.proofs.Common.{◌≡◌, ◌&&◌, ℕ, Bool, true, false, if◌then◌else◌, nat_eq, List, [], ◌∷◌, drop, take, length, refl}
use Rattle.std.specs.Cmp.Lexicographic.{pointwise}
use Rattle.csv.specs.Reading.{strip_bom}

begins : (p q r : Bool) (rest whole : List ℕ) → (p && (q && (r && true))) ≡ true → rest ≡ (if p && q && r then rest else whole)
begins true true true rest whole is = refl
begins true true false rest whole is = cc is
begins true false r rest whole is = cc is
begins false q r rest whole is = cc is

differs : (p q r : Bool) (rest whole : List ℕ) → (p && (q && (r && true))) ≡ false → whole ≡ (if p && q && r then rest else whole)
differs true true true rest whole is = cc is
differs true true false rest whole is = refl
differs true false r rest whole is = refl
differs false q r rest whole is = refl

never : (p : Bool) → (p && false) ≡ true → ⊥
never true is = cc is
never false is = cc is

never_2 : (p q : Bool) → (p && (q && false)) ≡ true → ⊥
never_2 true q is = never q is
never_2 false q is = cc is

-- with the mark
marked : (text : List ℕ) → pointwise nat_eq (take 3 text) (239 ∷ 187 ∷ 191 ∷ []) ≡ true → drop 3 text ≡ strip_bom text
unfolding strip_bom
marked [] is = absurd (never false is)
marked (a ∷ []) is = absurd (never (nat_eq a 239) is)
marked (a ∷ b ∷ []) is = absurd (never_2 (nat_eq a 239) (nat_eq b 187) is)
marked (a ∷ b ∷ c ∷ rest) is = begins (nat_eq a 239) (nat_eq b 187) (nat_eq c 191) rest (a ∷ b ∷ c ∷ rest) is

pub marked_by : (text rest mark : List ℕ) → mark ≡ 239 ∷ 187 ∷ 191 ∷ [] → pointwise nat_eq (take (length mark) text) mark ≡ true → rest ≡ drop (length mark) text
    → rest ≡ strip_bom text
marked_by text rest mark mark_is is rest_is = rw rest_is (rw mark_is (marked text (rw mark_is at is)))

-- without it
unmarked : (text : List ℕ) → pointwise nat_eq (take 3 text) (239 ∷ 187 ∷ 191 ∷ []) ≡ false → text ≡ strip_bom text
unfolding strip_bom
unmarked [] is = refl
unmarked (a ∷ []) is = refl
unmarked (a ∷ b ∷ []) is = refl
unmarked (a ∷ b ∷ c ∷ rest) is = differs (nat_eq a 239) (nat_eq b 187) (nat_eq c 191) rest (a ∷ b ∷ c ∷ rest) is

pub unmarked_by : (text mark : List ℕ) → mark ≡ 239 ∷ 187 ∷ 191 ∷ [] → pointwise nat_eq (take (length mark) text) mark ≡ false → text ≡ strip_bom text
unmarked_by text mark mark_is is = unmarked text (rw mark_is at is)
