-- The symbol at the start of a text: the longest that the text begins with.
use Rattle.std.proofs.Common.{◌≡◌, ℕ, ◌+◌, ◌<◌, ◌≤◌, get_or, Bool, true, false, cond, List, [], ◌∷◌, ◌++◌, length, drop, Option, Some, None, refl, sym, ap, subst, ◌∙◌, ◌⊎◌, inl, inr, arith}
use Rattle.std.specs.Prelude.{find, nat_eq}
use Rattle.std.specs.List.{starts_with, AllByRecursion}
use Rattle.std.specs.Str.{bytes_eq}
use Rattle.std.proofs.lemmas.Bool.{false≢true}
use Rattle.std.proofs.lemmas.List.{at_drop_more, length-append}
use Rattle.std.proofs.lemmas.Bool.Decides.{Decides-eqb}
use Rattle.std.proofs.lemmas.Slice.Eq.{starts_is}
use Rattle.feel_tests.specs.Words.{symbol_text}
use Rattle.feel_tests.specs.Symbols.{symbols}
use Rattle.feel_tests.specs.declared.symbol.Symbol.{Symbol}
use Rattle.feel_tests.specs.declared.symbol.Symbol.TheVariants.{Less, AtMost, More, AtLeast, OpenRound, CloseRound, OpenSquare, CloseSquare, Dots, Comma, Dash}

some_is : {X : Type 0} (x y : X) → Some x ≡ Some y → x ≡ y
some_is x y e = cc

find_at : {X : Type 0} (p : X → Bool) (y x : X) (xs : List X) (t : Bool) → p y ≡ t → cond t (Some y) (find p xs) ≡ Some x → (find p xs ≡ Some x → p x ≡ true) → p x ≡ true
find_at p y x xs true e f more = subst (λ z. p z ≡ true) (some_is y x f) e
find_at p y x xs false e f more = more f

find_passes : {X : Type 0} (p : X → Bool) (xs : List X) (x : X) → find p xs ≡ Some x → p x ≡ true
find_passes p [] x e = absurd cc
find_passes p (y ∷ xs) x e = find_at p y x xs (p y) refl e (find_passes p xs x)

-- the first one of those after an item that fails is the first one from that item on
pub find_missed : {X : Type 0} (p : X → Bool) (xs : List X) (i : ℕ) (d : X) → i < length xs → p (get_or xs i d) ≡ false → find p (drop i xs) ≡ find p (drop (i + 1) xs)
find_missed p xs i d within missed =
    at_drop_more (find p) xs i d within ∙ ap (λ b. cond b (Some (get_or xs i d)) (find p (drop (i + 1) xs))) missed

none_at : {X : Type 0} (p : X → Bool) (y : X) (xs : List X) (t : Bool) → p y ≡ t → cond t (Some y) (find p xs) ≡ None → (p y ≡ false) × (find p xs ≡ None)
none_at p y xs true e f = absurd cc
none_at p y xs false e f = (e, f)

find_none : {X : Type 0} (p : X → Bool) (xs : List X) → find p xs ≡ None → AllByRecursion (λ x. p x ≡ false) xs
find_none p [] e = tt
find_none p (y ∷ xs) e = let both = none_at p y xs (p y) refl e in (both.0, find_none p xs both.1)

-- the bytes begin with the symbol
pub starts_from : (bytes : List ℕ) (symbol : Symbol) (after : List ℕ) → bytes ≡ symbol_text symbol ++ after → starts_with nat_eq bytes (symbol_text symbol) ≡ true
starts_from bytes symbol after e = (starts_is Decides-eqb bytes (symbol_text symbol) (starts_with nat_eq bytes (symbol_text symbol)) refl).1 after e

pub symbol_found : (bytes : List ℕ) (symbol : Symbol) → find (λ s. starts_with nat_eq bytes (symbol_text s)) symbols ≡ Some symbol → bytes ≡ symbol_text symbol ++ drop (length (symbol_text symbol)) bytes
symbol_found bytes symbol e =
    let passed = find_passes (λ s. starts_with nat_eq bytes (symbol_text s)) symbols symbol e in
    (starts_is Decides-eqb bytes (symbol_text symbol) (starts_with nat_eq bytes (symbol_text symbol)) refl).0 passed

pub symbol_within : (bytes : List ℕ) (symbol : Symbol) → find (λ s. starts_with nat_eq bytes (symbol_text s)) symbols ≡ Some symbol → length (symbol_text symbol) ≤ length bytes
symbol_within bytes symbol e =
    let rest = drop (length (symbol_text symbol)) bytes in
    let joined : length bytes ≡ length (symbol_text symbol) + length rest = ap length (symbol_found bytes symbol e) ∙ length-append (symbol_text symbol) rest in
    omega (arith, joined)

-- a symbol is not empty
pub some_bytes : (symbol : Symbol) → 1 ≤ length (symbol_text symbol)
some_bytes Less = omega arith
some_bytes AtMost = omega arith
some_bytes More = omega arith
some_bytes AtLeast = omega arith
some_bytes OpenRound = omega arith
some_bytes CloseRound = omega arith
some_bytes OpenSquare = omega arith
some_bytes CloseSquare = omega arith
some_bytes Dots = omega arith
some_bytes Comma = omega arith
some_bytes Dash = omega arith

two_at : (a b c : Bool) (r : Option Symbol) (s : Symbol) → cond a (Some AtMost) (cond b (Some AtLeast) (cond c (Some Dots) r)) ≡ Some s → (2 ≤ length (symbol_text s)) ⊎ ((a ≡ false) × (b ≡ false) × (c ≡ false))
two_at true b c r s e = inl (subst (λ z. 2 ≤ length (symbol_text z)) (some_is AtMost s e) (omega arith))
two_at false true c r s e = inl (subst (λ z. 2 ≤ length (symbol_text z)) (some_is AtLeast s e) (omega arith))
two_at false false true r s e = inl (subst (λ z. 2 ≤ length (symbol_text z)) (some_is Dots s e) (omega arith))
two_at false false false r s e = inr (refl, refl, refl)

longest_at : (p : Symbol → Bool) (s : Symbol) → (2 ≤ length (symbol_text s)) ⊎ ((p AtMost ≡ false) × (p AtLeast ≡ false) × (p Dots ≡ false)) → (t : Symbol) → p t ≡ true → length (symbol_text t) ≤ length (symbol_text s)
longest_at p s (inl two) AtMost h = two
longest_at p s (inl two) AtLeast h = two
longest_at p s (inl two) Dots h = two
longest_at p s (inr apart) AtMost h = absurd (false≢true (sym apart.0 ∙ h))
longest_at p s (inr apart) AtLeast h = absurd (false≢true (sym apart.1 ∙ h))
longest_at p s (inr apart) Dots h = absurd (false≢true (sym apart.2 ∙ h))
longest_at p s which Less h = some_bytes s
longest_at p s which More h = some_bytes s
longest_at p s which OpenRound h = some_bytes s
longest_at p s which CloseRound h = some_bytes s
longest_at p s which OpenSquare h = some_bytes s
longest_at p s which CloseSquare h = some_bytes s
longest_at p s which Comma h = some_bytes s
longest_at p s which Dash h = some_bytes s

pub symbol_longest : (bytes : List ℕ) (symbol : Symbol) → find (λ s. starts_with nat_eq bytes (symbol_text s)) symbols ≡ Some symbol → (other : Symbol) (after : List ℕ) → bytes ≡ symbol_text other ++ after → length (symbol_text other) ≤ length (symbol_text symbol)
symbol_longest bytes symbol e other after joined =
    longest_at (λ s. starts_with nat_eq bytes (symbol_text s)) symbol (two_at _ _ _ _ symbol e) other (starts_from bytes other after joined)

none_of : (p : Symbol → Bool) → AllByRecursion (λ s. p s ≡ false) symbols → (t : Symbol) → p t ≡ false
none_of p h AtMost = h.0
none_of p h AtLeast = h.1.0
none_of p h Dots = h.1.1.0
none_of p h Less = h.1.1.1.0
none_of p h More = h.1.1.1.1.0
none_of p h OpenRound = h.1.1.1.1.1.0
none_of p h CloseRound = h.1.1.1.1.1.1.0
none_of p h OpenSquare = h.1.1.1.1.1.1.1.0
none_of p h CloseSquare = h.1.1.1.1.1.1.1.1.0
none_of p h Comma = h.1.1.1.1.1.1.1.1.1.0
none_of p h Dash = h.1.1.1.1.1.1.1.1.1.1.0

pub symbol_none : (bytes : List ℕ) → find (λ s. starts_with nat_eq bytes (symbol_text s)) symbols ≡ None → (other : Symbol) (after : List ℕ) → bytes ≡ symbol_text other ++ after → ⊥
symbol_none bytes e other after joined =
    let p : Symbol → Bool = λ s. starts_with nat_eq bytes (symbol_text s) in
    false≢true (sym (none_of (λ s. starts_with nat_eq bytes (symbol_text s)) (find_none (λ s. starts_with nat_eq bytes (symbol_text s)) symbols e) other) ∙ starts_from bytes other after joined)

abbrev symbol_with : List ℕ → Option Symbol
symbol_with text = find (λ s. bytes_eq (symbol_text s) text) symbols

symbol_back : (s : Symbol) → symbol_with (symbol_text s) ≡ Some s
symbol_back Less = refl
symbol_back AtMost = refl
symbol_back More = refl
symbol_back AtLeast = refl
symbol_back OpenRound = refl
symbol_back CloseRound = refl
symbol_back OpenSquare = refl
symbol_back CloseSquare = refl
symbol_back Dots = refl
symbol_back Comma = refl
symbol_back Dash = refl

-- symbols with equal bytes are equal
pub symbol_one : (s t : Symbol) → symbol_text s ≡ symbol_text t → s ≡ t
symbol_one s t e = some_is s t (sym (symbol_back s) ∙ ap symbol_with e ∙ symbol_back t)
