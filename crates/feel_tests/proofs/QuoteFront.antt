-- Strings: the bytes between quotes denote one text, and the text after the string is unique.
use Rattle.std.proofs.Common.{◌≡◌, ℕ, true, false, ◌||◌, eqb, List, [], ◌∷◌, ◌++◌, refl, sym, ap, subst, ◌∙◌, append_assoc, ◌⊎◌, inl, inr, arith, suc, ◌<◌, ◌≢◌, length, drop, get_or}
use Rattle.std.proofs.lemmas.Bool.{or_cases, or_from, or_left, or_right, eqb-true, eq-eqb, ne_eqb, cases_Bool, false≢true}
use Rattle.std.proofs.lemmas.List.{append-nil}
use Rattle.feel_tests.specs.Words.{escaped_byte, escaped}

heads : (a b : ℕ) (xs ys : List ℕ) → a ∷ xs ≡ b ∷ ys → (a ≡ b) × (xs ≡ ys)
heads a b xs ys e = (cc, cc)

-- a byte that is written plainly, or after a backslash
pub data Written (b : ℕ) : Type 0 where
  bare : (eqb b 34 || eqb b 92) ≡ false → Written b
  slashed : (eqb b 34 || eqb b 92) ≡ true → Written b

pub written : (b : ℕ) → Written b
written b = elim (cases_Bool (eqb b 34 || eqb b 92)) [ inl t ↦ slashed t | inr f ↦ bare f ]

pub byte_bare : (b : ℕ) → (eqb b 34 || eqb b 92) ≡ false → escaped_byte b ≡ b ∷ []
byte_bare b e = rw e refl

pub byte_after : (b : ℕ) → (eqb b 34 || eqb b 92) ≡ true → escaped_byte b ≡ 92 ∷ b ∷ []
byte_after b e = rw e refl

bare_no_quote : (b : ℕ) → (eqb b 34 || eqb b 92) ≡ false → b ≡ 34 → ⊥
bare_no_quote b e is = let x : (eqb 34 34 || eqb 34 92) ≡ false = subst (λ (z : ℕ). (eqb z 34 || eqb z 92) ≡ false) is e in false≢true (sym x)

bare_no_backslash : (b : ℕ) → (eqb b 34 || eqb b 92) ≡ false → b ≡ 92 → ⊥
bare_no_backslash b e is = let x : (eqb 92 34 || eqb 92 92) ≡ false = subst (λ (z : ℕ). (eqb z 34 || eqb z 92) ≡ false) is e in false≢true (sym x)

-- two texts with equal encodings have the same first byte and the same rest
byte_one : (x y : ℕ) (xs ys : List ℕ) → Written x → Written y → escaped_byte x ++ xs ≡ escaped_byte y ++ ys → (x ≡ y) × (xs ≡ ys)
byte_one x y xs ys (bare p) (bare q) e =
    let f : x ∷ xs ≡ y ∷ ys = sym (ap (λ (t : List ℕ). t ++ xs) (byte_bare x p)) ∙ e ∙ ap (λ (t : List ℕ). t ++ ys) (byte_bare y q) in
    heads x y xs ys f
byte_one x y xs ys (bare p) (slashed q) e =
    let f : x ∷ xs ≡ 92 ∷ y ∷ ys = sym (ap (λ (t : List ℕ). t ++ xs) (byte_bare x p)) ∙ e ∙ ap (λ (t : List ℕ). t ++ ys) (byte_after y q) in
    absurd (bare_no_backslash x p (heads x 92 xs (y ∷ ys) f).0)
byte_one x y xs ys (slashed p) (bare q) e =
    let f : 92 ∷ x ∷ xs ≡ y ∷ ys = sym (ap (λ (t : List ℕ). t ++ xs) (byte_after x p)) ∙ e ∙ ap (λ (t : List ℕ). t ++ ys) (byte_bare y q) in
    absurd (bare_no_backslash y q (sym (heads 92 y (x ∷ xs) ys f).0))
byte_one x y xs ys (slashed p) (slashed q) e =
    let f : 92 ∷ x ∷ xs ≡ 92 ∷ y ∷ ys = sym (ap (λ (t : List ℕ). t ++ xs) (byte_after x p)) ∙ e ∙ ap (λ (t : List ℕ). t ++ ys) (byte_after y q) in
    heads x y xs ys (heads 92 92 (x ∷ xs) (y ∷ ys) f).1

two_marks : (a : ℕ) → a ≡ 92 → a ≡ 34 → ⊥
two_marks a e f = omega arith

-- an encoded byte does not begin with the closing quote
pub byte_no_quote : (x : ℕ) (xs rest : List ℕ) → Written x → escaped_byte x ++ xs ≡ 34 ∷ rest → ⊥
byte_no_quote x xs rest (bare p) e =
    let f : x ∷ xs ≡ 34 ∷ rest = sym (ap (λ (t : List ℕ). t ++ xs) (byte_bare x p)) ∙ e in
    bare_no_quote x p (heads x 34 xs rest f).0
byte_no_quote x xs rest (slashed p) e =
    let f : 92 ∷ x ∷ xs ≡ 34 ∷ rest = sym (ap (λ (t : List ℕ). t ++ xs) (byte_after x p)) ∙ e in
    two_marks 92 refl (heads 92 34 (x ∷ xs) rest f).0

-- the bytes between the quotes denote one text
pub escaped_one : (xs ys after following : List ℕ) → escaped xs ++ 34 ∷ after ≡ escaped ys ++ 34 ∷ following → (xs ≡ ys) × (after ≡ following)
escaped_one [] [] after following e = (refl, (heads 34 34 after following e).1)
escaped_one [] (y ∷ ys) after following e =
    absurd (byte_no_quote y (escaped ys ++ 34 ∷ following) after (written y) (sym (append_assoc (escaped_byte y) (escaped ys) (34 ∷ following)) ∙ sym e))
escaped_one (x ∷ xs) [] after following e =
    absurd (byte_no_quote x (escaped xs ++ 34 ∷ after) following (written x) (sym (append_assoc (escaped_byte x) (escaped xs) (34 ∷ after)) ∙ e))
escaped_one (x ∷ xs) (y ∷ ys) after following e =
    let f = sym (append_assoc (escaped_byte x) (escaped xs) (34 ∷ after)) ∙ e ∙ append_assoc (escaped_byte y) (escaped ys) (34 ∷ following) in
    let one = byte_one x y (escaped xs ++ 34 ∷ after) (escaped ys ++ 34 ∷ following) (written x) (written y) f in
    let more = escaped_one xs ys after following one.1 in
    (ap2 one.0 more.0, more.1)
  where
    ap2 : {a b : ℕ} {s t : List ℕ} → a ≡ b → s ≡ t → a ∷ s ≡ b ∷ t
    ap2 p q = cc

-- the bytes read so far are a prefix of the text between the quotes
pub escaped_front : (xs ys rest following : List ℕ) → escaped xs ++ rest ≡ escaped ys ++ 34 ∷ following → (zs : List ℕ) × (rest ≡ escaped zs ++ 34 ∷ following)
escaped_front [] ys rest following e = (ys, e)
escaped_front (x ∷ xs) [] rest following e =
    absurd (byte_no_quote x (escaped xs ++ rest) following (written x) (sym (append_assoc (escaped_byte x) (escaped xs) rest) ∙ e))
escaped_front (x ∷ xs) (y ∷ ys) rest following e =
    let f = sym (append_assoc (escaped_byte x) (escaped xs) rest) ∙ e ∙ append_assoc (escaped_byte y) (escaped ys) (34 ∷ following) in
    let one = byte_one x y (escaped xs ++ rest) (escaped ys ++ 34 ∷ following) (written x) (written y) f in
    escaped_front xs ys rest following one.1

-- if the rest does not begin with a byte of a string, the quotes contain no text
pub front_no_piece : (bytes ys rest following : List ℕ) → ((b : ℕ) (after : List ℕ) → ¬ (rest ≡ escaped_byte b ++ after)) → ((after : List ℕ) → ¬ (rest ≡ 34 ∷ after)) → escaped bytes ++ rest ≡ escaped ys ++ 34 ∷ following → ⊥
front_no_piece bytes ys rest following no_byte no_quote e =
    let front = escaped_front bytes ys rest following e in
    no_piece rest front.0 following no_byte no_quote front.1
  where
    no_piece : (rest zs following : List ℕ) → ((b : ℕ) (after : List ℕ) → ¬ (rest ≡ escaped_byte b ++ after)) → ((after : List ℕ) → ¬ (rest ≡ 34 ∷ after)) → rest ≡ escaped zs ++ 34 ∷ following → ⊥
    no_piece rest [] following no_byte no_quote e = no_quote following e
    no_piece rest (z ∷ zs) following no_byte no_quote e = no_byte z (escaped zs ++ 34 ∷ following) (e ∙ append_assoc (escaped_byte z) (escaped zs) (34 ∷ following))

-- the bytes read so far, extended by one byte
pub escaped_more : (bytes : List ℕ) (b : ℕ) (following rest inside : List ℕ) → inside ≡ escaped bytes ++ rest → rest ≡ escaped_byte b ++ following → inside ≡ escaped (bytes ++ b ∷ []) ++ following
escaped_more bytes b following rest inside e f =
    e ∙ ap (λ (t : List ℕ). escaped bytes ++ t) f ∙ sym (append_assoc (escaped bytes) (escaped_byte b) following) ∙ ap (λ (t : List ℕ). t ++ following) (escaped_push bytes b)
  where
    escaped_push : (bytes : List ℕ) (b : ℕ) → escaped bytes ++ escaped_byte b ≡ escaped (bytes ++ b ∷ [])
    escaped_push [] b = sym (append-nil (escaped_byte b))
    escaped_push (x ∷ xs) b = append_assoc (escaped_byte x) (escaped xs) (escaped_byte b) ∙ ap (λ (t : List ℕ). escaped_byte x ++ t) (escaped_push xs b)

pub piece_shorter : (b : ℕ) (following rest : List ℕ) → rest ≡ escaped_byte b ++ following → length following < length rest
piece_shorter b following rest e = rw e (shorter b following (written b))
  where
    shorter : (b : ℕ) (following : List ℕ) → Written b → length following < length (escaped_byte b ++ following)
    shorter b following (bare p) = rw (byte_bare b p) (omega arith)
    shorter b following (slashed p) = rw (byte_after b p) (omega arith)

-- ---- the pieces, by the first two bytes

pub is_bare : (rest : List ℕ) → 0 < length rest → get_or rest 0 0 ≢ 34 → get_or rest 0 0 ≢ 92 → rest ≡ escaped_byte (get_or rest 0 0) ++ drop 1 rest
is_bare [] some q s = absurd (omega arith)
is_bare (b ∷ bs) some q s =
    let p : (eqb b 34 || eqb b 92) ≡ false = or_from (eqb b 34) (eqb b 92) (ne_eqb b 34 q) (ne_eqb b 92 s) in
    sym (ap (λ (t : List ℕ). t ++ bs) (byte_bare b p))

pub is_slashed : (rest : List ℕ) → 1 < length rest → get_or rest 0 0 ≡ 92 → (get_or rest 1 0 ≡ 34) ⊎ (get_or rest 1 0 ≡ 92) → rest ≡ escaped_byte (get_or rest 1 0) ++ drop 2 rest
is_slashed [] some s w = absurd (omega arith)
is_slashed (b ∷ []) some s w = absurd (omega arith)
is_slashed (b ∷ e ∷ bs) some s w =
    let p : (eqb e 34 || eqb e 92) ≡ true = mark e w in
    ap (λ (t : ℕ). t ∷ e ∷ bs) s ∙ sym (ap (λ (t : List ℕ). t ++ bs) (byte_after e p))
  where
    mark : (e : ℕ) → (e ≡ 34) ⊎ (e ≡ 92) → (eqb e 34 || eqb e 92) ≡ true
    mark e (inl q) = or_left (eqb e 34) (eqb e 92) (eq-eqb e 34 q)
    mark e (inr q) = or_right (eqb e 34) (eqb e 92) (eq-eqb e 92 q)

pub is_quote : (rest : List ℕ) → 0 < length rest → get_or rest 0 0 ≡ 34 → rest ≡ 34 ∷ drop 1 rest
is_quote [] some q = absurd (omega arith)
is_quote (b ∷ bs) some q = ap (λ (t : ℕ). t ∷ bs) q

pub empty_no_byte : (rest : List ℕ) → length rest ≡ 0 → (b : ℕ) (after : List ℕ) → ¬ (rest ≡ escaped_byte b ++ after)
empty_no_byte rest none b after e = let s = piece_shorter b after rest e in omega (arith, s, none)

pub empty_no_quote : (rest : List ℕ) → length rest ≡ 0 → (after : List ℕ) → ¬ (rest ≡ 34 ∷ after)
empty_no_quote rest none after e = let l : length rest ≡ suc (length after) = ap length e in omega (arith, l, none)

pub slash_no_quote : (rest : List ℕ) → get_or rest 0 0 ≡ 92 → (after : List ℕ) → ¬ (rest ≡ 34 ∷ after)
slash_no_quote rest s after e = two_marks (get_or rest 0 0) s (ap (λ (t : List ℕ). get_or t 0 0) e)

-- a backslash that neither a quote nor a backslash follows
pub slash_no_byte : (rest : List ℕ) → get_or rest 0 0 ≡ 92 → get_or rest 1 0 ≢ 34 → get_or rest 1 0 ≢ 92 → (b : ℕ) (after : List ℕ) → ¬ (rest ≡ escaped_byte b ++ after)
slash_no_byte rest s q t b after e = at_byte rest s q t b after e (written b)
  where
    at_byte : (rest : List ℕ) → get_or rest 0 0 ≡ 92 → get_or rest 1 0 ≢ 34 → get_or rest 1 0 ≢ 92 → (b : ℕ) (after : List ℕ) → rest ≡ escaped_byte b ++ after → Written b → ⊥
    at_byte rest s q t b after e (bare p) =
        let f : rest ≡ b ∷ after = e ∙ ap (λ (l : List ℕ). l ++ after) (byte_bare b p) in
        bare_no_backslash b p (sym (ap (λ (l : List ℕ). get_or l 0 0) f) ∙ s)
    at_byte rest s q t b after e (slashed p) =
        let f : rest ≡ 92 ∷ b ∷ after = e ∙ ap (λ (l : List ℕ). l ++ after) (byte_after b p) in
        let g : get_or rest 1 0 ≡ b = ap (λ (l : List ℕ). get_or l 1 0) f in
        elim (or_cases (eqb b 34) (eqb b 92) p) [ inl w ↦ q (g ∙ eqb-true b 34 w) | inr w ↦ t (g ∙ eqb-true b 92 w) ]
