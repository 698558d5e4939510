-- Joined sides and sets have the zones of both.
use Rattle.std.proofs.Common.{◌≡◌, ℕ, zero, suc, ◌+◌, ◌<◌, ◌⊎◌, inl, inr, List, [], ◌∷◌, ◌++◌, length, get_or, take, Some, set, sym, subst, arith}
use Rattle.std.specs.List.{insert, slice_get}
use Rattle.std.proofs.lemmas.Option.{none-some, same_Some}
use Rattle.plan_commands.specs.declared.zone_sets.ZoneSet.{ZoneSet}
use Rattle.plan_zones.specs.Boxes.{IsInside, OneOf}
use Rattle.plan_commands.specs.ZoneSets.{HasBoth, HaveAlso, HaveSameZones, IsOn, IsUnion}

-- an element more in a list
insert_one : {X : Type 0} (P : X → Type 0) (xs : List X) (i : ℕ) (y : X) → OneOf P (insert xs i y) → OneOf P xs ⊎ P y
insert_one P xs zero y (inl p) = inr p
insert_one P xs zero y (inr more) = inl more
insert_one P [] (suc i) y (inl p) = inr p
insert_one P [] (suc i) y (inr more) = absurd more
insert_one P (x ∷ xs) (suc i) y (inl p) = inl (inl p)
insert_one P (x ∷ xs) (suc i) y (inr more) = elim (insert_one P xs i y more) [ inl old ↦ inl (inr old) | inr new ↦ inr new ]

one_inserted : {X : Type 0} (P : X → Type 0) (xs : List X) (i : ℕ) (y : X) → P y → OneOf P (insert xs i y)
one_inserted P xs zero y p = inl p
one_inserted P [] (suc i) y p = inl p
one_inserted P (x ∷ xs) (suc i) y p = inr (one_inserted P xs i y p)

one_kept : {X : Type 0} (P : X → Type 0) (xs : List X) (i : ℕ) (y : X) → OneOf P xs → OneOf P (insert xs i y)
one_kept P xs zero y at = inr at
one_kept P [] (suc i) y at = absurd at
one_kept P (x ∷ xs) (suc i) y (inl p) = inl p
one_kept P (x ∷ xs) (suc i) y (inr more) = inr (one_kept P xs i y more)

-- the first elements of a list, with one more
pub take_split : {X : Type 0} (P : X → Type 0) (xs : List X) (i : ℕ) (x d : X) → i < length xs → x ≡ get_or xs i d → OneOf P (take (i + 1) xs) → OneOf P (take i xs) ⊎ P x
take_split P [] i x d below is at = absurd (omega (arith, below))
take_split P (y ∷ ys) zero x d below is (inl p) = inr (subst P (sym is) p)
take_split P (y ∷ ys) zero x d below is (inr more) = absurd more
take_split P (y ∷ ys) (suc i) x d below is at =
    let next : suc i + 1 ≡ suc (i + 1) = omega arith in
    elim (subst (λ n. OneOf P (take n (y ∷ ys))) next at) [
      | inl p ↦ inl (inl p)
      | inr more ↦ elim (take_split P ys i x d (omega (arith, below)) is more) [ inl old ↦ inl (inr old) | inr new ↦ inr new ]
    ]

pub take_join : {X : Type 0} (P : X → Type 0) (xs : List X) (i : ℕ) (x d : X) → i < length xs → x ≡ get_or xs i d → OneOf P (take i xs) ⊎ P x → OneOf P (take (i + 1) xs)
take_join P [] i x d below is at = absurd (omega (arith, below))
take_join P (y ∷ ys) zero x d below is (inl none) = absurd none
take_join P (y ∷ ys) zero x d below is (inr p) = inl (subst P is p)
take_join P (y ∷ ys) (suc i) x d below is at =
    let next : suc i + 1 ≡ suc (i + 1) = omega arith in
    subst (λ n. OneOf P (take n (y ∷ ys))) (sym next) (elim at [
      | inl first ↦ elim first [ inl p ↦ inl p | inr more ↦ inr (take_join P ys i x d (omega (arith, below)) is (inl more)) ]
      | inr p ↦ inr (take_join P ys i x d (omega (arith, below)) is (inr p))
    ])

-- no region of the other side is added yet
pub union_begun : (one : List ℕ) → IsUnion one [] one
union_begun one region = (λ at. inl at, λ at. elim at [ inl own ↦ own | inr none ↦ absurd none ])

-- one region of the other side more is added
pub union_more : (one other both : List ℕ) (i place x : ℕ) → i < length other → x ≡ get_or other i 0 → IsUnion one (take i other) both → IsUnion one (take (i + 1) other) (insert both place x)
union_more one other both i place x below is union region = (there, back) where
  On : ℕ → Type 0
  On listed = listed ≡ region

  there : IsOn (insert both place x) region → IsOn one region ⊎ IsOn (take (i + 1) other) region
  there at = elim (insert_one On both place x at) [
    | inl old ↦ elim ((union region).0 old) [ inl own ↦ inl own | inr more ↦ inr (take_join On other i x 0 below is (inl more)) ]
    | inr new ↦ inr (take_join On other i x 0 below is (inr new))
  ]

  back : IsOn one region ⊎ IsOn (take (i + 1) other) region → IsOn (insert both place x) region
  back (inl own) = one_kept On both place x ((union region).1 (inl own))
  back (inr at) = elim (take_split On other i x 0 below is at) [
    | inl more ↦ one_kept On both place x ((union region).1 (inr more))
    | inr new ↦ one_inserted On both place x new
  ]

-- sides that are equal but for the first one, and those that have an equal first one
pub first_joined : (one other both : List ℕ) (more : List (List ℕ)) → IsUnion one other both → HasBoth (one ∷ more) (other ∷ more) (both ∷ more)
first_joined one other both more union [] = (λ at. absurd at, λ at. elim at [ inl own ↦ absurd own | inr own ↦ absurd own ])
first_joined one other both more union (region ∷ rest) = (
  λ at. elim ((union region).0 at.0) [ inl own ↦ inl (own, at.1) | inr own ↦ inr (own, at.1) ],
  λ at. elim at [ inl own ↦ ((union region).1 (inl own.0), own.1) | inr own ↦ ((union region).1 (inr own.0), own.1) ],
)

pub first_joined_by : (one other both : List (List ℕ)) (first second side : List ℕ) (more others : List (List ℕ)) → one ≡ first ∷ more → other ≡ second ∷ others → more ≡ others
    → both ≡ side ∷ more → IsUnion first second side → HasBoth one other both
first_joined_by one other both first second side more others one_is other_is same both_is union =
    subst (λ o. HasBoth o other both) (sym one_is) (subst (λ o. HasBoth (first ∷ more) o both) (sym other_is)
    (subst (λ os. HasBoth (first ∷ more) (second ∷ os) both) same (subst (λ b. HasBoth (first ∷ more) (second ∷ more) b) (sym both_is) (first_joined first second side more union))))

pub rest_joined : (first : List ℕ) (one other both : List (List ℕ)) → HasBoth one other both → HasBoth (first ∷ one) (first ∷ other) (first ∷ both)
rest_joined first one other both has [] = (λ at. absurd at, λ at. elim at [ inl own ↦ absurd own | inr own ↦ absurd own ])
rest_joined first one other both has (region ∷ rest) = (
  λ at. elim ((has rest).0 at.1) [ inl own ↦ inl (at.0, own) | inr own ↦ inr (at.0, own) ],
  λ at. elim at [ inl own ↦ (own.0, (has rest).1 (inl own.1)) | inr own ↦ (own.0, (has rest).1 (inr own.1)) ],
)

pub none_joined : HasBoth [] [] []
none_joined [] = (λ at. inl at, λ at. tt)
none_joined (region ∷ rest) = (λ at. absurd at, λ at. elim at [ inl own ↦ absurd own | inr own ↦ absurd own ])

-- a set more in a list of sets
abbrev Has : List ℕ → ZoneSet → Type 0
Has zone s = IsInside s.sides zone

pub last_split : {X : Type 0} (P : X → Type 0) (xs : List X) (x : X) → OneOf P (xs ++ x ∷ []) → OneOf P xs ⊎ P x
last_split P [] x (inl p) = inr p
last_split P [] x (inr none) = absurd none
last_split P (y ∷ ys) x (inl p) = inl (inl p)
last_split P (y ∷ ys) x (inr more) = elim (last_split P ys x more) [ inl old ↦ inl (inr old) | inr new ↦ inr new ]

pub last_join : {X : Type 0} (P : X → Type 0) (xs : List X) (x : X) → OneOf P xs ⊎ P x → OneOf P (xs ++ x ∷ [])
last_join P [] x (inl none) = absurd none
last_join P [] x (inr p) = inl p
last_join P (y ∷ ys) x (inl (inl p)) = inl p
last_join P (y ∷ ys) x (inl (inr more)) = inr (last_join P ys x (inl more))
last_join P (y ∷ ys) x (inr p) = inr (last_join P ys x (inr p))

pub set_pushed : (sets new : List ZoneSet) (s : ZoneSet) → new ≡ sets ++ s ∷ [] → HaveAlso sets s new
set_pushed sets new s is zone = (λ at. last_split (Has zone) sets s (subst (OneOf (Has zone)) is at), λ at. subst (OneOf (Has zone)) (sym is) (last_join (Has zone) sets s at))

-- a set that is replaced by a joined one
pub set_split : {X : Type 0} (P Q : X → Type 0) (xs : List X) (i : ℕ) (x y : X) → slice_get xs i ≡ Some x → (P y → P x ⊎ Q x) → OneOf P (set xs i y) → OneOf P xs ⊎ Q x
set_split P Q [] i x y at from found = absurd (none-some x at)
set_split P Q (z ∷ zs) zero x y at from (inl p) = elim (from p) [ inl own ↦ inl (inl (subst P (sym (same_Some z x at)) own)) | inr q ↦ inr q ]
set_split P Q (z ∷ zs) zero x y at from (inr more) = inl (inr more)
set_split P Q (z ∷ zs) (suc i) x y at from (inl p) = inl (inl p)
set_split P Q (z ∷ zs) (suc i) x y at from (inr more) = elim (set_split P Q zs i x y at from more) [ inl old ↦ inl (inr old) | inr new ↦ inr new ]

pub set_join : {X : Type 0} (P : X → Type 0) (xs : List X) (i : ℕ) (x y : X) → slice_get xs i ≡ Some x → (P x → P y) → OneOf P xs → OneOf P (set xs i y)
set_join P [] i x y at keeps found = absurd found
set_join P (z ∷ zs) zero x y at keeps (inl p) = inl (keeps (subst P (same_Some z x at) p))
set_join P (z ∷ zs) zero x y at keeps (inr more) = inr more
set_join P (z ∷ zs) (suc i) x y at keeps (inl p) = inl p
set_join P (z ∷ zs) (suc i) x y at keeps (inr more) = inr (set_join P zs i x y at keeps more)

pub set_here : {X : Type 0} (P : X → Type 0) (xs : List X) (i : ℕ) (x y : X) → slice_get xs i ≡ Some x → P y → OneOf P (set xs i y)
set_here P [] i x y at p = absurd (none-some x at)
set_here P (z ∷ zs) zero x y at p = inl p
set_here P (z ∷ zs) (suc i) x y at p = inr (set_here P zs i x y at p)

pub set_joined : (sets new : List ZoneSet) (i : ℕ) (old s both : ZoneSet) → slice_get sets i ≡ Some old → HasBoth old.sides s.sides both.sides → new ≡ set sets i both → HaveAlso sets s new
set_joined sets new i old s both at has is zone = (
  λ found. set_split (Has zone) (λ x. IsInside s.sides zone) sets i old both at (has zone).0 (subst (OneOf (Has zone)) is found),
  λ found. subst (OneOf (Has zone)) (sym is) (elim found [
    | inl own ↦ set_join (Has zone) sets i old both at (λ p. (has zone).1 (inl p)) own
    | inr own ↦ set_here (Has zone) sets i old both at ((has zone).1 (inr own))
  ]),
)

-- the first sets of a list are joined, and one more
pub sets_more : (sets joined new : List ZoneSet) (i : ℕ) (s d : ZoneSet) → i < length sets → s ≡ get_or sets i d → HaveSameZones (take i sets) joined → HaveAlso joined s new
    → HaveSameZones (take (i + 1) sets) new
sets_more sets joined new i s d below is same also zone = (
  λ at. (also zone).1 (elim (take_split (Has zone) sets i s d below is at) [ inl old ↦ inl ((same zone).0 old) | inr own ↦ inr own ]),
  λ at. take_join (Has zone) sets i s d below is (elim ((also zone).0 at) [ inl old ↦ inl ((same zone).1 old) | inr own ↦ inr own ]),
)

-- a set with the sides of another one is added
pub set_added : (sets new : List ZoneSet) (s own : ZoneSet) → own.sides ≡ s.sides → new ≡ sets ++ own ∷ [] → HaveAlso sets s new
set_added sets new s own same is zone = (
  λ at. elim ((set_pushed sets new own is zone).0 at) [ inl old ↦ inl old | inr more ↦ inr (subst (λ sides. IsInside sides zone) same more) ],
  λ at. (set_pushed sets new own is zone).1 (elim at [ inl old ↦ inl old | inr more ↦ inr (subst (λ sides. IsInside sides zone) (sym same) more) ]),
)

pub same_itself : (sets : List ZoneSet) → HaveSameZones sets sets
same_itself sets zone = (λ at. at, λ at. at)

pub same_twice : (one two three : List ZoneSet) → HaveSameZones one two → HaveSameZones two three → HaveSameZones one three
same_twice one two three first second zone = (λ at. (second zone).0 ((first zone).0 at), λ at. (first zone).1 ((second zone).1 at))
