-- Lists of which one element, or each element, satisfies a property.
use Rattle.std.proofs.Common.{◌≡◌, ℕ, zero, suc, ◌+◌, ◌<◌, ◌⊎◌, inl, inr, List, [], ◌∷◌, ◌++◌, length, get_or, take, map, Some, set, refl, ap, sym, ◌∙◌, subst, append-nil, append_assoc, arith}
use Rattle.std.specs.List.{AllByRecursion, flat_map, range_with_len, slice_get}
use Rattle.std.proofs.lemmas.List.{map-append}
use Rattle.std.proofs.lemmas.Option.{none-some, same_Some}
use Rattle.cutplan.proofs.Steps.{range_more}
use Rattle.plan_zones.specs.Boxes.{Extends, OneOf}

pub one_map : {X : Type 0} (P Q : X → Type 0) → ((x : X) → P x → Q x) → (xs : List X) → OneOf P xs → OneOf Q xs
one_map P Q f [] at = absurd at
one_map P Q f (x ∷ xs) (inl p) = inl (f x p)
one_map P Q f (x ∷ xs) (inr more) = inr (one_map P Q f xs more)

-- as above, where each element has another property
pub one_all_map : {X : Type 0} (A P Q : X → Type 0) → ((x : X) → A x → P x → Q x) → (xs : List X) → AllByRecursion A xs → OneOf P xs → OneOf Q xs
one_all_map A P Q f [] all at = absurd at
one_all_map A P Q f (x ∷ xs) all (inl p) = inl (f x all.0 p)
one_all_map A P Q f (x ∷ xs) all (inr more) = inr (one_all_map A P Q f xs all.1 more)

pub one_some : {X : Type 0} (P : X → Type 0) (xs : List X) → OneOf P xs → (x : X) × P x
one_some P [] at = absurd at
one_some P (x ∷ xs) (inl p) = (x, p)
one_some P (x ∷ xs) (inr more) = one_some P xs more

pub one_left : {X : Type 0} (P : X → Type 0) (xs ys : List X) → OneOf P xs → OneOf P (xs ++ ys)
one_left P [] ys at = absurd at
one_left P (x ∷ xs) ys (inl p) = inl p
one_left P (x ∷ xs) ys (inr more) = inr (one_left P xs ys more)

pub one_right : {X : Type 0} (P : X → Type 0) (xs ys : List X) → OneOf P ys → OneOf P (xs ++ ys)
one_right P [] ys at = at
one_right P (x ∷ xs) ys at = inr (one_right P xs ys at)

pub one_split : {X : Type 0} (P : X → Type 0) (xs ys : List X) → OneOf P (xs ++ ys) → OneOf P xs ⊎ OneOf P ys
one_split P [] ys at = inr at
one_split P (x ∷ xs) ys (inl p) = inl (inl p)
one_split P (x ∷ xs) ys (inr more) = elim (one_split P xs ys more) [ inl left ↦ inl (inr left) | inr right ↦ inr right ]

pub one_mapped : {X Y : Type 0} (P : Y → Type 0) (f : X → Y) (xs : List X) → OneOf (λ x. P (f x)) xs → OneOf P (map f xs)
one_mapped P f [] at = absurd at
one_mapped P f (x ∷ xs) (inl p) = inl p
one_mapped P f (x ∷ xs) (inr more) = inr (one_mapped P f xs more)

pub one_unmapped : {X Y : Type 0} (P : Y → Type 0) (f : X → Y) (xs : List X) → OneOf P (map f xs) → OneOf (λ x. P (f x)) xs
one_unmapped P f [] at = absurd at
one_unmapped P f (x ∷ xs) (inl p) = inl p
one_unmapped P f (x ∷ xs) (inr more) = inr (one_unmapped P f xs more)

pub all_map : {X : Type 0} (P Q : X → Type 0) → ((x : X) → P x → Q x) → (xs : List X) → AllByRecursion P xs → AllByRecursion Q xs
all_map P Q f [] all = tt
all_map P Q f (x ∷ xs) all = (f x all.0, all_map P Q f xs all.1)

pub all_append : {X : Type 0} (P : X → Type 0) (xs ys : List X) → AllByRecursion P xs → AllByRecursion P ys → AllByRecursion P (xs ++ ys)
all_append P [] ys left right = right
all_append P (x ∷ xs) ys left right = (left.0, all_append P xs ys left.1 right)

pub all_mapped : {X Y : Type 0} (P : Y → Type 0) (f : X → Y) (xs : List X) → AllByRecursion (λ x. P (f x)) xs → AllByRecursion P (map f xs)
all_mapped P f [] all = tt
all_mapped P f (x ∷ xs) all = (all.0, all_mapped P f xs all.1)

-- an element with one property has the property of all
pub all_one : {X : Type 0} (P Q : X → Type 0) (xs : List X) → AllByRecursion P xs → OneOf Q xs → (x : X) × P x × Q x
all_one P Q [] all at = absurd at
all_one P Q (x ∷ xs) all (inl q) = (x, all.0, q)
all_one P Q (x ∷ xs) all (inr more) = all_one P Q xs all.1 more

pub all_at : {X : Type 0} (P : X → Type 0) (xs : List X) (place : ℕ) (x : X) → slice_get xs place ≡ Some x → AllByRecursion P xs → P x
all_at P [] place x at all = absurd (none-some x at)
all_at P (y ∷ ys) zero x at all = subst P (same_Some y x at) all.0
all_at P (y ∷ ys) (suc place) x at all = all_at P ys place x at all.1

pub all_set : {X : Type 0} (P : X → Type 0) (xs : List X) (place : ℕ) (y : X) → P y → AllByRecursion P xs → AllByRecursion P (set xs place y)
all_set P [] place y p all = tt
all_set P (x ∷ xs) zero y p all = (p, all.1)
all_set P (x ∷ xs) (suc place) y p all = (all.0, all_set P xs place y p all.1)

-- an element that is replaced keeps its property
pub one_set : {X : Type 0} (P : X → Type 0) (xs : List X) (place : ℕ) (x y : X) → slice_get xs place ≡ Some x → (P x → P y) → OneOf P xs → OneOf P (set xs place y)
one_set P [] place x y at keeps one = absurd one
one_set P (z ∷ zs) zero x y at keeps (inl p) = inl (keeps (subst P (same_Some z x at) p))
one_set P (z ∷ zs) zero x y at keeps (inr more) = inr more
one_set P (z ∷ zs) (suc place) x y at keeps (inl p) = inl p
one_set P (z ∷ zs) (suc place) x y at keeps (inr more) = inr (one_set P zs place x y at keeps more)

pub one_set_here : {X : Type 0} (P : X → Type 0) (xs : List X) (place : ℕ) (x y : X) → slice_get xs place ≡ Some x → P y → OneOf P (set xs place y)
one_set_here P [] place x y at p = absurd (none-some x at)
one_set_here P (z ∷ zs) zero x y at p = inl p
one_set_here P (z ∷ zs) (suc place) x y at p = inr (one_set_here P zs place x y at p)

-- what a list's first elements are mapped to, with one more element
pub map_more : {X Y : Type 0} (f : X → Y) (xs : List X) (i : ℕ) (x : X) → i < length xs → x ≡ get_or xs i x → map f (take (i + 1) xs) ≡ map f (take i xs) ++ f x ∷ []
map_more f [] i x below is = absurd (omega (arith, below))
map_more f (y ∷ ys) zero x below is = ap (λ z. f z ∷ []) (sym is)
map_more f (y ∷ ys) (suc i) x below is =
    let next : suc i + 1 ≡ suc (i + 1) = omega arith in
    ap (λ n. map f (take n (y ∷ ys))) next ∙ ap (λ rest. f y ∷ rest) (map_more f ys i x (omega (arith, below)) is)

pub flat_more : {X Y : Type 0} (f : X → List Y) (xs : List X) (i : ℕ) (x : X) → i < length xs → x ≡ get_or xs i x → flat_map f (take (i + 1) xs) ≡ flat_map f (take i xs) ++ f x
flat_more f [] i x below is = absurd (omega (arith, below))
flat_more f (y ∷ ys) zero x below is = append-nil (f y) ∙ ap f (sym is)
flat_more f (y ∷ ys) (suc i) x below is =
    let next : suc i + 1 ≡ suc (i + 1) = omega arith in
    ap (λ n. flat_map f (take n (y ∷ ys))) next ∙ ap (λ rest. f y ++ rest) (flat_more f ys i x (omega (arith, below)) is) ∙ sym (append_assoc (f y) (flat_map f (take i ys)) (f x))

-- what the first numbers are mapped to, with one more number
pub range_mapped : {Y : Type 0} (f : ℕ → Y) (n : ℕ) → map f (range_with_len 0 (n + 1)) ≡ map f (range_with_len 0 n) ++ f n ∷ []
range_mapped f n =
    let next : n + 1 ≡ suc n = omega arith in
    let zero_more : 0 + n ≡ n = omega arith in
    ap (λ k. map f (range_with_len 0 k)) next ∙ ap (map f) (range_more 0 n) ∙ map-append f (range_with_len 0 n) ((0 + n) ∷ []) ∙ ap (λ k. map f (range_with_len 0 n) ++ f k ∷ []) zero_more

-- an element has the same index in a longer list
pub get_left : {X : Type 0} (xs more : List X) (i : ℕ) (x : X) → slice_get xs i ≡ Some x → slice_get (xs ++ more) i ≡ Some x
get_left [] more i x at = absurd (none-some x at)
get_left (y ∷ ys) more zero x at = at
get_left (y ∷ ys) more (suc i) x at = get_left ys more i x at

pub get_right : {X : Type 0} (xs more : List X) (i : ℕ) (x : X) → i < length xs → slice_get (xs ++ more) i ≡ Some x → slice_get xs i ≡ Some x
get_right [] more i x below at = absurd (omega (arith, below))
get_right (y ∷ ys) more zero x below at = at
get_right (y ∷ ys) more (suc i) x below at = get_right ys more i x (omega (arith, below)) at

pub longer : {X : Type 0} (xs more : List X) (i : ℕ) → i < length xs → i < length (xs ++ more)
longer [] more i below = absurd (omega (arith, below))
longer (x ∷ xs) more zero below = omega arith
longer (x ∷ xs) more (suc i) below = let b = longer xs more i (omega (arith, below)) in omega (arith, b)

-- the element at an index
pub get_there : {X : Type 0} (xs : List X) (i : ℕ) → i < length xs → (x : X) × (slice_get xs i ≡ Some x)
get_there [] i below = absurd (omega (arith, below))
get_there (x ∷ xs) zero below = (x, refl)
get_there (x ∷ xs) (suc i) below = get_there xs i (omega (arith, below))

-- each list begins with itself, and with what its beginning begins with
pub extends_none : {X : Type 0} (xs : List X) → Extends xs xs
extends_none xs = ([], sym (append-nil xs))

pub extends_twice : {X : Type 0} (xs ys zs : List X) → Extends xs ys → Extends ys zs → Extends xs zs
extends_twice xs ys zs one two = (one.0 ++ two.0, two.1 ∙ ap (λ front. front ++ two.0) one.1 ∙ append_assoc xs one.0 two.0)

-- the element after a list
pub get_last : {X : Type 0} (xs : List X) (x : X) → slice_get (xs ++ x ∷ []) (length xs) ≡ Some x
get_last [] x = refl
get_last (y ∷ ys) x = get_last ys x
