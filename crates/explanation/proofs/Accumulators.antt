-- The facts of accumulators, added one after another.
use Rattle.std.specs.Prelude.{codes, decimal}
use Rattle.std.proofs.Common.{◌≡◌, ℕ, true, false, is_none, List, [], ◌∷◌, ◌++◌, Option, Some, None, sym, ap, ◌∙◌, append-nil}
use Rattle.fixpoint.specs.Money.{money_text}
use Rattle.settlement.specs.declared.acc.Acc.{Acc}
use Rattle.explanation.specs.Facts.{FactParts, fact}
use Rattle.explanation.specs.Steps.{accumulator_facts, before_facts, last_facts}
use Rattle.explanation.specs.declared.family.Standing.{Standing}
use Rattle.explanation.specs.declared.row.Place.{Place}
use Rattle.explanation.proofs.Appending.{five, three}

module _ (step : List ℕ) (acc : Acc) (start a b c : List FactParts) (one : a ≡ start ++ fact step (codes "met of the deductible") (money_text acc.met) ∷ [])
    (other : b ≡ a ++ fact step (codes "paid out of pocket") (money_text acc.oop) ∷ []) (third : c ≡ b ++ fact step (codes "paid by the plan") (money_text acc.paid) ∷ []) where
  pub own_added : (family : Option (List ℕ)) → is_none family ≡ true → c ≡ start ++ accumulator_facts step family acc
  own_added None none = three start a b c _ _ _ one other third
  own_added (Some family) none = absurd (cc none)

  pub all_added : (family : Option (List ℕ)) (d e : List FactParts) → is_none family ≡ false → d ≡ c ++ fact step (codes "met of the family's deductible") (money_text acc.fmet) ∷ []
      → e ≡ d ++ fact step (codes "paid out of pocket by the family") (money_text acc.foop) ∷ [] → e ≡ start ++ accumulator_facts step family acc
  all_added None d e some fourth fifth = absurd (cc some)
  all_added (Some family) d e some fourth fifth = five start a b c d e _ _ _ _ _ one other third fourth fifth

-- what an account has before a claim
module _ (step : List ℕ) (family : Option (List ℕ)) (before : Standing) (start a : List FactParts) (one : a ≡ start ++ accumulator_facts step family before.acc) where
  pub first_added : before.last ≡ None → a ≡ start ++ before_facts step family before
  first_added none =
      one ∙ ap (λ fs. start ++ fs) (sym (append-nil (accumulator_facts step family before.acc)))
      ∙ ap (λ (l : Option Place). start ++ (accumulator_facts step family before.acc ++ last_facts step l)) (sym none)

  pub last_added : (place : Place) (b c : List FactParts) → before.last ≡ Some place → b ≡ a ++ fact step (codes "after file") (decimal place.provider) ∷ []
      → c ≡ b ++ fact step (codes "after record") (decimal place.number) ∷ [] → c ≡ start ++ before_facts step family before
  last_added place b c some other last =
      three start a b c _ _ _ one other last
      ∙ ap (λ (l : Option Place). start ++ (accumulator_facts step family before.acc ++ last_facts step l)) (sym some)
