-- Pairs of lists, and the fields of a record by their places.
use Rattle.std.proofs.Common.{◌≡◌, ◌<◌, ◌≤◌, ◌+◌, ℕ, suc, zero, List, [], ◌∷◌, ◌++◌, length, get_or, take, drop, Some, refl, sym, ap, ◌∙◌, arith, add-one}
use Rattle.std.specs.List.{All, AllZip, Any, slice_get}
use Rattle.std.proofs.lemmas.List.{get_or_append_left, length_push, take_more}
use Rattle.std.proofs.lemmas.List.Elements.{All-cons, All-drop, All-nil, All-take}
use Rattle.csv.specs.Records.{field_at}

-- a relation between two lists, extended by one item each
pub AllZip-grow : {A B : Type 0} (R : A → B → Type 0) (xs : List A) (ys : List B) (x : A) (y : B) → AllZip R xs ys → R x y → AllZip R (xs ++ x ∷ []) (ys ++ y ∷ [])
AllZip-grow R [] [] x y h r = (r, tt)
AllZip-grow R [] (z ∷ zs) x y h r = absurd h
AllZip-grow R (w ∷ ws) [] x y h r = absurd h
AllZip-grow R (w ∷ ws) (z ∷ zs) x y h r = (h.0, AllZip-grow R ws zs x y h.1 r)

-- a property of all items of the second list
pub All-from_zip : {A B : Type 0} (R : A → B → Type 0) (P : B → Type 0) → ((x : A) (y : B) → R x y → P y) → (xs : List A) (ys : List B) → AllZip R xs ys → All P ys
All-from_zip R P gives [] [] h = All-nil P
All-from_zip R P gives [] (y ∷ ys) h = absurd h
All-from_zip R P gives (x ∷ xs) [] h = absurd h
All-from_zip R P gives (x ∷ xs) (y ∷ ys) h = All-cons P y ys (gives x y h.0) (All-from_zip R P gives xs ys h.1)

-- the field at a place is the item of the list at that index
pub field_at-get_or : (fields : List (List ℕ)) (k : ℕ) (bytes : List ℕ) → field_at fields k ≡ Some bytes → (k < length fields) × (get_or fields k [] ≡ bytes)
unfolding field_at
field_at-get_or [] k bytes e = absurd (cc e)
field_at-get_or (f ∷ fs) zero bytes e = let same : f ≡ bytes = cc e in (omega arith, same)
field_at-get_or (f ∷ fs) (suc k) bytes e = let h = field_at-get_or fs k bytes e in (omega (arith, h.0), h.1)

-- each place within the record has a field
pub field_at-within : (fields : List (List ℕ)) (k : ℕ) → k < length fields → field_at fields k ≡ Some (get_or fields k [])
unfolding field_at
field_at-within [] k h = absurd (omega (arith, h))
field_at-within (f ∷ fs) zero h = refl
field_at-within (f ∷ fs) (suc k) h = field_at-within fs k (omega (arith, h))

-- appended fields do not change the earlier ones
pub field_at-append : (fields more : List (List ℕ)) (k : ℕ) (bytes : List ℕ) → field_at fields k ≡ Some bytes → field_at (fields ++ more) k ≡ Some bytes
unfolding field_at
field_at-append [] more k bytes e = absurd (cc e)
field_at-append (f ∷ fs) more zero bytes e = e
field_at-append (f ∷ fs) more (suc k) bytes e = field_at-append fs more k bytes e

-- the appended field is at the end
pub field_at-last : (fields : List (List ℕ)) (bytes : List ℕ) → field_at (fields ++ bytes ∷ []) (length fields) ≡ Some bytes
unfolding field_at
field_at-last [] bytes = refl
field_at-last (f ∷ fs) bytes = field_at-last fs bytes

-- a property of some item holds for some item of a longer list
pub any-more : {A : Type 0} (P : A → Type 0) (xs : List A) (y : A) → Any P xs → Any P (xs ++ y ∷ [])
any-more P xs y (k, x, within, is, has) =
    let longer : k < length (xs ++ y ∷ []) = omega (arith, within, length_push xs y) in
    (k, x, longer, get_or_append_left xs (y ∷ []) x k within ∙ is, has)

-- a property of the first item holds for some item
any-here : {A : Type 0} (P : A → Type 0) (x : A) (xs : List A) → P x → Any P (x ∷ xs)
any-here P x xs has = (0, x, omega arith, refl, has)

-- a property of some item after the first one holds for some item
any-following : {A : Type 0} (P : A → Type 0) (x : A) (xs : List A) → Any P xs → Any P (x ∷ xs)
any-following P x xs (k, y, within, is, has) = (suc k, y, omega (arith, within), is, has)

-- a property of the first item of a list that is not empty holds for some item
pub any-first : {A : Type 0} (P : A → Type 0) (xs : List A) (d : A) → 1 ≤ length xs → P (get_or xs 0 d) → Any P xs
any-first P [] d some has = absurd (omega (arith, some))
any-first P (x ∷ xs) d some has = any-here P x xs has

-- a property of the item at an index holds for some item
pub any-at : {A : Type 0} (P : A → Type 0) (k : ℕ) (xs : List A) (d : A) → k < length xs → P (get_or xs k d) → Any P xs
any-at P k [] d within has = absurd (omega (arith, within))
any-at P zero (x ∷ xs) d within has = any-here P x xs has
any-at P (suc k) (x ∷ xs) d within has = any-following P x xs (any-at P k xs d (omega (arith, within)) has)

any-taken : {A : Type 0} (P : A → Type 0) (n : ℕ) (xs : List A) → Any P (take n xs) → Any P xs
any-taken P zero xs (k, x, within, is, has) = absurd (omega (arith, within))
any-taken P (suc n) [] some = some
any-taken P (suc n) (y ∷ ys) (zero, x, within, is, has) = (zero, x, omega arith, is, has)
any-taken P (suc n) (y ∷ ys) (suc k, x, within, is, has) = any-following P y ys (any-taken P n ys (k, x, omega (arith, within), is, has))

any-dropped : {A : Type 0} (P : A → Type 0) (k : ℕ) (xs : List A) → Any P (drop k xs) → Any P xs
any-dropped P zero xs some = some
any-dropped P (suc k) [] some = some
any-dropped P (suc k) (y ∷ ys) some = any-following P y ys (any-dropped P k ys some)

-- a property of some item of a sublist holds for some item
pub any-within : {A : Type 0} (P : A → Type 0) (k n : ℕ) (xs : List A) → Any P (take n (drop k xs)) → Any P xs
any-within P k n xs some = any-dropped P k xs (any-taken P n (drop k xs) some)

-- a property of all items holds for the items of a sublist
pub all-within : {A : Type 0} (P : A → Type 0) (k n : ℕ) (xs : List A) → All P xs → All P (take n (drop k xs))
all-within P k n xs all = All-take P n (drop k xs) (All-drop P k xs all)

-- a property of a prefix with the next item appended holds for the longer prefix
pub grown : {A : Type 0} (P : List A → Type 0) (xs : List A) (k : ℕ) (d : A) → k < length xs → P (take k xs ++ get_or xs k d ∷ []) → P (take (k + 1) xs)
grown P xs k d within h = rw (take_more xs k d within) h

drop-nothing : {A : Type 0} (k : ℕ) → drop {A = A} k [] ≡ []
drop-nothing zero = refl
drop-nothing (suc k) = refl

-- dropping the first item and then k more drops k + 1 items
pub drop-after : {A : Type 0} (all : List A) (k : ℕ) → drop (k + 1) all ≡ drop k (drop 1 all)
drop-after [] k = drop-nothing (k + 1) ∙ sym (drop-nothing k)
drop-after (x ∷ xs) k = rw add-one refl

-- the first item after k dropped ones
first-following : {A : Type 0} (xs : List A) (k : ℕ) (x : A) (more : List A) → drop k xs ≡ x ∷ more → (slice_get xs k ≡ Some x) × (take (k + 1) xs ≡ take k xs ++ x ∷ [])
first-following [] k x more e = absurd (cc (sym (drop-nothing k) ∙ e))
first-following (y ∷ ys) zero x more e = let same : y ≡ x = cc e in (ap Some same, ap (λ z. z ∷ []) same)
first-following (y ∷ ys) (suc k) x more e =
    let h = first-following ys k x more e in
    let after : suc k + 1 ≡ suc (k + 1) = omega arith in
    (h.0, rw after (ap (λ zs. y ∷ zs) h.1))

-- the first item after k + 1 dropped ones
pub next-at : {A : Type 0} (all : List A) (k : ℕ) (x : A) (more : List A) → drop (k + 1) all ≡ x ∷ more
    → (slice_get (drop 1 all) k ≡ Some x) × (take (k + 1) (drop 1 all) ≡ take k (drop 1 all) ++ x ∷ [])
next-at all k x more e = first-following (drop 1 all) k x more (sym (drop-after all k) ∙ e)

-- the items after one more dropped item, which exists
pub one-more : {A : Type 0} (xs : List A) (k : ℕ) (x : A) (more : List A) → drop k xs ≡ x ∷ more → (k < length xs) × (drop (k + 1) xs ≡ more)
one-more [] k x more e = absurd (cc (sym (drop-nothing k) ∙ e))
one-more (y ∷ ys) zero x more e = let others : ys ≡ more = cc e in (omega arith, others)
one-more (y ∷ ys) (suc k) x more e =
    let h = one-more ys k x more e in
    let after : suc k + 1 ≡ suc (k + 1) = omega arith in
    (omega (arith, h.0), rw after h.1)
