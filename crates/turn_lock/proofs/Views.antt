-- Properties of each view after one view is replaced or a new one is added at the end.
use Rattle.std.proofs.Common.{◌≡◌, ◌≢◌, ℕ, zero, suc, Bool, true, false, List, [], ◌∷◌, ◌++◌, set, sym, refl, ap, ◌∙◌, subst, ⊎_elim}
use mathlib.Core.Option.{some, some-injective, some-ne-none}
use lib.ListN.{get_elem?}
use Rattle.atomic_table.proofs.Lists.{at_set, at_snoc}

module _ {V : Type 0} where
  pub each_set : (K : ℕ → V → Type 0) (vs : List V) (me : ℕ) (w : V) → K me w → ((j : ℕ) (v : V) → j ≢ me → get_elem? vs j ≡ some v → K j v)
      → (j : ℕ) (v : V) → get_elem? (set vs me w) j ≡ some v → K j v
  each_set K vs me w mine others j v at = ⊎_elim (λ (t : (j ≡ me) × (w ≡ v)). subst (λ (x : ℕ × V). K x.0 x.1) (λ i. (sym t.0 i, t.1 i)) mine)
      (λ (t : (j ≢ me) × (get_elem? vs j ≡ some v)). others j v t.0 t.1) (at_set vs me j w v at)

  pub each_snoc : (K : V → Type 0) (vs : List V) (w : V) → ((j : ℕ) (v : V) → get_elem? vs j ≡ some v → K v) → K w → (j : ℕ) (v : V) → get_elem? (vs ++ w ∷ []) j ≡ some v → K v
  each_snoc K vs w others mine j v at = ⊎_elim (others j v) (λ (t : w ≡ v). subst K t mine) (at_snoc vs w v j at)

  pub there_set : (vs : List V) (i : ℕ) (v w : V) → get_elem? vs i ≡ some v → get_elem? (set vs i w) i ≡ some w
  there_set [] i v w at = absurd (some-ne-none v (sym at))
  there_set (x ∷ xs) zero v w at = refl
  there_set (x ∷ xs) (suc i) v w at = there_set xs i v w at

  -- an index has one view
  pub one_view : (vs : List V) (i j : ℕ) (v w : V) → i ≡ j → get_elem? vs i ≡ some v → get_elem? vs j ≡ some w → v ≡ w
  one_view vs i j v w same at there = some-injective v w (sym at ∙ (ap (get_elem? vs) same ∙ there))

pub is_false : (b : Bool) → (b ≡ true → ⊥) → b ≡ false
is_false true not = absurd (not refl)
is_false false not = refl

pub not_both : (b : Bool) → b ≡ false → b ≡ true → ⊥
not_both b f t = cc
