-- The meaning of `==` for two slices of bytes.
use Rattle.std.proofs.Common.{◌≡◌, ℕ, Bool, false, true, List, eqb, sym, ◌∙◌}
use Rattle.std.specs.Cmp.Lexicographic.{pointwise}
use Rattle.std.proofs.lemmas.Bool.{false≢true}
use Rattle.std.proofs.lemmas.Bool.Decides.{Decides-eqb}
use Rattle.std.proofs.lemmas.Slice.Eq.{slice_eq-Decides}

-- slices that are unequal by `==` are different
pub bytes_apart : (xs ys : List ℕ) (answer : Bool) → answer ≡ pointwise eqb xs ys → answer ≡ false → xs ≡ ys → ⊥
bytes_apart xs ys answer e f same = false≢true (sym f ∙ (slice_eq-Decides Decides-eqb xs ys answer e).1 same)

-- slices that are equal by `==` are the same
pub bytes_same : (xs ys : List ℕ) (answer : Bool) → answer ≡ pointwise eqb xs ys → answer ≡ true → xs ≡ ys
bytes_same xs ys answer e t = (slice_eq-Decides Decides-eqb xs ys answer e).0 t
