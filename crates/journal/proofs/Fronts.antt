-- Lists split into a prefix and the rest.
use Rattle.std.proofs.Common.{◌≡◌, ℕ, zero, suc, ◌+◌, List, [], ◌∷◌, ◌++◌, drop, length, get_or, slice_get, Some, refl, sym, ap, subst, arith, zero-add}
use Rattle.std.proofs.lemmas.Option.{none-some}

-- an element of the rest is an element of the list, at its index plus the length of the prefix
pub slice_get-drop : {A : Type 0} (i : ℕ) (xs : List A) (j : ℕ) (x : A) → slice_get (drop i xs) j ≡ Some x → slice_get xs (i + j) ≡ Some x
slice_get-drop zero xs j x h = subst (λ w. slice_get xs w ≡ Some x) (sym (zero-add j)) h
slice_get-drop (suc i) [] j x h = absurd (none-some x h)
slice_get-drop (suc i) (z ∷ xs) j x h =
    let sum : suc (i + j) ≡ suc i + j = omega arith in
    subst (λ w. slice_get (z ∷ xs) w ≡ Some x) sum (slice_get-drop i xs j x h)

-- the element after a prefix
pub slice_get_at : {A : Type 0} (xs : List A) (x : A) (ys : List A) → slice_get (xs ++ x ∷ ys) (length xs) ≡ Some x
slice_get_at [] x ys = refl
slice_get_at (z ∷ xs) x ys = slice_get_at xs x ys

pub same_head : {A : Type 0} (x y : A) (xs ys : List A) → x ∷ xs ≡ y ∷ ys → x ≡ y
same_head x y xs ys h = ap (λ l. get_or l 0 x) h

pub same_tail : {A : Type 0} (x y : A) (xs ys : List A) → x ∷ xs ≡ y ∷ ys → xs ≡ ys
same_tail x y xs ys h = ap (drop 1) h
