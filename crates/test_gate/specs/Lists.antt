-- Lists that grow only at their end. The locks of the examples and tests protect such lists.
use Rattle.std.specs.Prelude.{◌≡◌, ◌⊎◌, List, [], ◌∷◌, ◌++◌}
use Rattle.std.proofs.Common.{sym, refl, ap, ◌∙◌, inl, inr, get_or, drop, append-nil, append_assoc}

module _ {A : Type 0} where
  -- the second list begins with the first
  abbrev pub GoesOn : List A → List A → Type 0
  GoesOn old new = (more : List A) × (new ≡ old ++ more)

  pub same_list : (xs : List A) → GoesOn xs xs
  same_list xs = ([], sym (append-nil xs))

  pub longer_list : (xs ys zs : List A) → GoesOn xs ys → GoesOn ys zs → GoesOn xs zs
  longer_list xs ys zs a b = (a.0 ++ b.0, b.1 ∙ (ap (λ l. l ++ b.0) a.1 ∙ append_assoc xs a.0 b.0))

  pub either_front : (xs ys a b : List A) → xs ++ a ≡ ys ++ b → GoesOn xs ys ⊎ GoesOn ys xs
  either_front [] ys a b same = inl (ys, refl)
  either_front (x ∷ xs) [] a b same = inr (x ∷ xs, refl)
  either_front (x ∷ xs) (y ∷ ys) a b same =
      let head : x ≡ y = ap (λ l. get_or l 0 x) same in
      elim (either_front xs ys a b (ap (drop 1) same)) [
        | inl on ↦ inl (on.0, λ i. sym head i ∷ on.1 i)
        | inr on ↦ inr (on.0, λ i. head i ∷ on.1 i)
      ]

  pub either_list : (xs ys zs : List A) → GoesOn xs zs → GoesOn ys zs → GoesOn xs ys ⊎ GoesOn ys xs
  either_list xs ys zs a b = either_front xs ys a.0 b.0 (sym a.1 ∙ b.1)
