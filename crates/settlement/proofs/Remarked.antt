-- The words at given places, with a mark between two of them.
use Rattle.std.proofs.Common.{◌≡◌, ℕ, List, [], ◌∷◌, ◌++◌, map, ap, refl, sym}
use Rattle.std.specs.List.{join_by}
use Rattle.std.proofs.lemmas.List.Folds.{flat_map-map}

pub joined_map : (word : ℕ → List ℕ) (mark : List ℕ) (places : List ℕ) → join_by word mark places ≡ join_by (λ remark. remark) mark (map word places)
joined_map word mark [] = refl
joined_map word mark (place ∷ places) = ap (λ rest. word place ++ rest) (sym (flat_map-map (λ (remark : List ℕ). mark ++ remark) word places))
