-- Steps of loops over lists.
use Rattle.std.proofs.Common.{◌≡◌, ℕ, zero, suc, ◌+◌, ◌<◌, ◌&&◌, ◌||◌, Some, Bool, true, false, cond, List, [], ◌∷◌, ◌++◌, length, get_or, take, drop, map, filter, refl, ap, ◌∙◌, append-nil, arith}
use Rattle.std.specs.List.{fold, flat_map, list_any, range_with_len, slice_get}
use Rattle.std.proofs.lemmas.List.{take_more}
use Rattle.std.proofs.lemmas.List.Concat.{flat_map-append}
use Rattle.std.proofs.lemmas.List.Sums.{fold-append}

-- a list after a push is the expected list with one more item
pub pushed_more : {A : Type 0} (before after wanted next : List A) (item made : A) → after ≡ before ++ item ∷ [] → before ≡ wanted → item ≡ made
    → next ≡ wanted ++ made ∷ [] → after ≡ next
pushed_more before after wanted next item made pushed so_far is step = cc

-- a flat map, extended by one item
pub flat_more : {X A : Type 0} (f : X → List A) (xs : List X) (i : ℕ) (d : X) → i < length xs → flat_map f (take (i + 1) xs) ≡ flat_map f (take i xs) ++ f (get_or xs i d)
flat_more f xs i d below =
    ap (flat_map f) (take_more xs i d below) ∙ flat_map-append f (take i xs) (get_or xs i d ∷ []) ∙ ap (λ last. flat_map f (take i xs) ++ last) (append-nil (f (get_or xs i d)))

-- a fold over a flat map, extended by one item
pub fold_flat_more : {X A B : Type 0} (g : B → A → B) (f : X → List A) (a : B) (xs : List X) (i : ℕ) (d : X) → i < length xs → fold g a (flat_map f (take (i + 1) xs)) ≡ fold g (fold g a (flat_map f (take i xs))) (f (get_or xs i d))
fold_flat_more g f a xs i d below = ap (fold g a) (flat_more f xs i d below) ∙ fold-append g a (flat_map f (take i xs)) (f (get_or xs i d))

-- a filter of a map is a map of a filter
pub filter_map_cons : {X : Type 0} (q : List X → Bool) (x : X) (xss : List (List X)) → filter q (map (λ xs. x ∷ xs) xss) ≡ map (λ xs. x ∷ xs) (filter (λ xs. q (x ∷ xs)) xss)
filter_map_cons q x [] = refl
filter_map_cons {X} q x (xs ∷ xss) =
    elim (q (x ∷ xs)) as (λ b. cond b ((x ∷ xs) ∷ filter q (map (λ ys. x ∷ ys) xss)) (filter q (map (λ ys. x ∷ ys) xss)) ≡ map (λ ys. x ∷ ys) (cond b (xs ∷ filter (λ ys. q (x ∷ ys)) xss) (filter (λ ys. q (x ∷ ys)) xss))) [
      | true ↦ ap (λ rest. (x ∷ xs) ∷ rest) (filter_map_cons q x xss)
      | false ↦ filter_map_cons q x xss
    ]

-- some element passes both tests if and only if some element of the filtered list passes the second
pub any_kept : {X : Type 0} (p q : X → Bool) (xs : List X) → list_any (λ x. p x && q x) xs ≡ list_any q (filter p xs)
any_kept p q [] = refl
any_kept p q (x ∷ xs) =
    elim (p x) as (λ b. ((b && q x) || list_any (λ y. p y && q y) xs) ≡ list_any q (cond b (x ∷ filter p xs) (filter p xs))) [
      | true ↦ ap (λ rest. q x || rest) (any_kept p q xs)
      | false ↦ any_kept p q xs
    ]

-- tests that agree give the same result for a list
pub any_agrees : {X : Type 0} (p q : X → Bool) → ((x : X) → p x ≡ q x) → (xs : List X) → list_any p xs ≡ list_any q xs
any_agrees p q agree [] = refl
any_agrees p q agree (x ∷ xs) = ap (λ b. b || list_any p xs) (agree x) ∙ ap (λ rest. q x || rest) (any_agrees p q agree xs)

-- a range, extended by one number
pub range_more : (a n : ℕ) → range_with_len a (suc n) ≡ range_with_len a n ++ (a + n) ∷ []
range_more a zero = let here : a ≡ a + 0 = omega arith in ap (λ k. k ∷ []) here
range_more a (suc n) =
    let there : (a + 1) + n ≡ a + suc n = omega arith in
    ap (λ rest. a ∷ rest) (range_more (a + 1) n ∙ ap (λ k. range_with_len (a + 1) n ++ k ∷ []) there)

-- the first element after n dropped ones is the element at the index n
pub first_of_rest : {X : Type 0} (xs : List X) (n : ℕ) (x : X) (rest : List X) → drop n xs ≡ x ∷ rest → slice_get xs n ≡ Some x
first_of_rest [] zero x rest e = absurd cc
first_of_rest [] (suc n) x rest e = absurd cc
first_of_rest (y ∷ ys) zero x rest e = let same : y ≡ x = cc in ap Some same
first_of_rest (y ∷ ys) (suc n) x rest e = first_of_rest ys n x rest e

pub rest_of_rest : {X : Type 0} (xs : List X) (n : ℕ) (x : X) (rest : List X) → drop n xs ≡ x ∷ rest → drop (suc n) xs ≡ rest
rest_of_rest [] zero x rest e = absurd cc
rest_of_rest [] (suc n) x rest e = absurd cc
rest_of_rest (y ∷ ys) zero x rest e = cc
rest_of_rest (y ∷ ys) (suc n) x rest e = rest_of_rest ys n x rest e
