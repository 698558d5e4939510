-- A cell holds for both or neither of two values that no literal of the cell separates.
use Rattle.std.proofs.Common.{◌≡◌, ◌&&◌, ◌||◌, ◌⊎◌, inl, inr, ℤ, subst, Bool, true, false, not, List, [], ◌∷◌, ◌++◌, refl, ap, sym, ◌∙◌}
use Rattle.std.specs.List.{flat_map}
use Rattle.feel_tests.specs.Holds.{is_equal, is_less, is_at_most, is_below, passes, one_passes, holds}
use Rattle.feel_tests.specs.declared.cell.Op.TheVariants.{Less, AtMost, More, AtLeast}
use Rattle.feel_tests.specs.declared.cell.Test.{Test}
use Rattle.feel_tests.specs.declared.cell.Test.TheVariants.{Equal, Compare, Between}
use Rattle.feel_tests.specs.declared.cell.Cell.{Cell}
use Rattle.feel_tests.specs.declared.cell.Cell.TheVariants.{Dash, OneOf, NoneOf}
use Rattle.feel_tests.specs.declared.value.Value.{Value}
use Rattle.feel_tests.specs.declared.value.Value.TheVariants.{Number, Day}
use Rattle.regions.specs.Regions.{test_literals, literals, is_open}
use Rattle.regions.proofs.Integers.{Beside, equal_beside, at_most_beside, at_least_beside}

-- each item of a list has the property
abbrev pub Each : {X : Type 0} → (X → Type 0) → List X → Type 0
Each P [] = Unit {0}
Each P (x ∷ xs) = P x × Each P xs

-- the item is in the list
abbrev pub Among : {X : Type 0} → X → List X → Type 0
Among x [] = ⊥
Among x (y ∷ ys) = (y ≡ x) ⊎ Among x ys

pub each_at : {X : Type 0} (P : X → Type 0) (xs : List X) (x : X) → Each P xs → Among x xs → P x
each_at P [] x all at = absurd at
each_at P (y ∷ ys) x all (inl e) = subst P e all.0
each_at P (y ∷ ys) x all (inr at) = each_at P ys x all.1 at

pub each_from : {X : Type 0} (P : X → Type 0) (xs : List X) → ((x : X) → Among x xs → P x) → Each P xs
each_from P [] f = tt
each_from P (y ∷ ys) f = (f y (inl refl), each_from P ys (λ x at. f x (inr at)))

pub among_left : {X : Type 0} (x : X) (xs ys : List X) → Among x xs → Among x (xs ++ ys)
among_left x [] ys at = absurd at
among_left x (z ∷ zs) ys (inl e) = inl e
among_left x (z ∷ zs) ys (inr at) = inr (among_left x zs ys at)

pub among_right : {X : Type 0} (x : X) (xs ys : List X) → Among x ys → Among x (xs ++ ys)
among_right x [] ys at = at
among_right x (z ∷ zs) ys at = inr (among_right x zs ys at)

-- the two values compare in the same way with the literal
pub record Alike (v w l : Value) : Type 0 where
  pub equal : is_equal v l ≡ is_equal w l
  pub less : is_less v l ≡ is_less w l
  pub more : is_less l v ≡ is_less l w
  pub at_most : is_at_most v l ≡ is_at_most w l
  pub at_least : is_at_most l v ≡ is_at_most l w

-- no test of the literal holds for the value
pub record Apart (v l : Value) : Type 0 where
  pub equal : is_equal v l ≡ false
  pub less : is_less v l ≡ false
  pub more : is_less l v ≡ false
  pub at_most : is_at_most v l ≡ false
  pub at_least : is_at_most l v ≡ false

pub alike_apart : {v w l : Value} → Apart v l → Apart w l → Alike v w l
alike_apart a b = record {
  equal = a.equal ∙ sym b.equal;
  less = a.less ∙ sym b.less;
  more = a.more ∙ sym b.more;
  at_most = a.at_most ∙ sym b.at_most;
  at_least = a.at_least ∙ sym b.at_least;
}

pub alike_same : (v w l : Value) → v ≡ w → Alike v w l
alike_same v w l e = record {
  equal = ap (λ x. is_equal x l) e;
  less = ap (λ x. is_less x l) e;
  more = ap (λ x. is_less l x) e;
  at_most = ap (λ x. is_at_most x l) e;
  at_least = ap (λ x. is_at_most l x) e;
}

pub alike_number : (a b c : ℤ) → Beside a b c → Alike (Number a) (Number b) (Number c)
alike_number a b c s = record { equal = equal_beside s; less = s.less; more = s.more; at_most = at_most_beside s; at_least = at_least_beside s }

pub alike_day : (a b c : ℤ) → Beside a b c → Alike (Day a) (Day b) (Day c)
alike_day a b c s = record { equal = equal_beside s; less = s.less; more = s.more; at_most = at_most_beside s; at_least = at_least_beside s }

low_alike : (v w l : Value) (low_in : Bool) → Alike v w l → is_below low_in l v ≡ is_below low_in l w
low_alike v w l true a = a.at_least
low_alike v w l false a = a.more

high_alike : (v w l : Value) (high_in : Bool) → Alike v w l → is_below high_in v l ≡ is_below high_in w l
high_alike v w l true a = a.at_most
high_alike v w l false a = a.less

passes_alike : (v w : Value) (test : Test) → Each (Alike v w) (test_literals test) → passes test v ≡ passes test w
passes_alike v w (Equal l) all = all.0.equal
passes_alike v w (Compare Less l) all = all.0.less
passes_alike v w (Compare AtMost l) all = all.0.at_most
passes_alike v w (Compare More l) all = all.0.more
passes_alike v w (Compare AtLeast l) all = all.0.at_least
passes_alike v w (Between low low_in high high_in) all =
    ap (λ x. x && is_below high_in v high) (low_alike v w low low_in all.0) ∙ ap (λ y. is_below low_in low w && y) (high_alike v w high high_in all.1.0)

each_left : {X : Type 0} (P : X → Type 0) (xs ys : List X) → Each P (xs ++ ys) → Each P xs
each_left P [] ys all = tt
each_left P (x ∷ xs) ys all = (all.0, each_left P xs ys all.1)

each_right : {X : Type 0} (P : X → Type 0) (xs ys : List X) → Each P (xs ++ ys) → Each P ys
each_right P [] ys all = all
each_right P (x ∷ xs) ys all = each_right P xs ys all.1

one_passes_alike : (v w : Value) (tests : List Test) → Each (Alike v w) (flat_map test_literals tests) → one_passes tests v ≡ one_passes tests w
one_passes_alike v w [] all = refl
one_passes_alike v w (test ∷ tests) all =
    ap (λ x. x || one_passes tests v) (passes_alike v w test (each_left (Alike v w) (test_literals test) (flat_map test_literals tests) all))
    ∙ ap (λ y. passes test w || y) (one_passes_alike v w tests (each_right (Alike v w) (test_literals test) (flat_map test_literals tests) all))

-- a cell holds alike for two values that compare in the same way with all its literals
pub holds_alike : (v w : Value) (cell : Cell) → Each (Alike v w) (literals cell) → holds cell v ≡ holds cell w
holds_alike v w Dash all = refl
holds_alike v w (OneOf tests) all = one_passes_alike v w tests all
holds_alike v w (NoneOf tests) all = ap not (one_passes_alike v w tests all)

low_apart : (v l : Value) (low_in : Bool) → Apart v l → is_below low_in l v ≡ false
low_apart v l true a = a.at_least
low_apart v l false a = a.more

passes_apart : (v : Value) (test : Test) → Each (Apart v) (test_literals test) → passes test v ≡ false
passes_apart v (Equal l) all = all.0.equal
passes_apart v (Compare Less l) all = all.0.less
passes_apart v (Compare AtMost l) all = all.0.at_most
passes_apart v (Compare More l) all = all.0.more
passes_apart v (Compare AtLeast l) all = all.0.at_least
passes_apart v (Between low low_in high high_in) all = ap (λ x. x && is_below high_in v high) (low_apart v low low_in all.0)

one_passes_apart : (v : Value) (tests : List Test) → Each (Apart v) (flat_map test_literals tests) → one_passes tests v ≡ false
one_passes_apart v [] all = refl
one_passes_apart v (test ∷ tests) all =
    ap (λ x. x || one_passes tests v) (passes_apart v test (each_left (Apart v) (test_literals test) (flat_map test_literals tests) all))
    ∙ one_passes_apart v tests (each_right (Apart v) (test_literals test) (flat_map test_literals tests) all)

-- if no test of a literal of the cell holds for a value, the cell holds for it as for a value that
-- no test names
pub holds_apart : (v : Value) (cell : Cell) → Each (Apart v) (literals cell) → holds cell v ≡ is_open cell
holds_apart v Dash all = refl
holds_apart v (OneOf tests) all = one_passes_apart v tests all
holds_apart v (NoneOf tests) all = ap not (one_passes_apart v tests all)
