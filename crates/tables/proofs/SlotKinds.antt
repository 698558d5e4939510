-- The kinds of the slots do not change if a slot is set to a value of its kind.
use Rattle.std.proofs.Common.{◌≡◌, ℕ, zero, suc, List, [], ◌∷◌, map, set, get_or, refl, ap, ◌∙◌}
use Rattle.feel_tests.specs.declared.kind.Kind.{Kind}
use Rattle.tables.specs.declared.inputs.Slot.{Slot}

pub kinds_stay :
    (slots : List Slot) (place : ℕ) (old new : Slot) → old ≡ get_or slots place old → new.kind ≡ old.kind
    → map (λ (s : Slot). s.kind) (set slots place new) ≡ map (λ (s : Slot). s.kind) slots
kinds_stay [] place old new is kind = refl
kinds_stay (s ∷ slots) zero old new is kind = ap (λ (k : Kind). k ∷ map (λ (s : Slot). s.kind) slots) (kind ∙ ap (λ (x : Slot). x.kind) is)
kinds_stay (s ∷ slots) (suc place) old new is kind = ap (◌∷◌ s.kind) (kinds_stay slots place old new is kind)
