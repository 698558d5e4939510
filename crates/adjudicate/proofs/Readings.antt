-- What holds for each reading of terms holds, where the terms have a reading and it is a test or an equation of numbers.
use Rattle.std.proofs.Common.{inl, inr, ◌≡◌, ℕ, ◌==◌, Bool, true, false, eqb-true}
use Rattle.std.proofs.lemmas.Bool.{both_ways, cases_Bool, eq-eqb}
use Rattle.claim_gate.specs.Terms.{ForTerms, TermsParts}

module _ (parts : TermsParts) (readable : ¬ ForTerms parts (λ T. ⊥)) where
  pub holds : (b : Bool) → ForTerms parts (λ T. b ≡ true) → b ≡ true
  holds b h = elim (cases_Bool b) [
    | inl is_true ↦ is_true
    | inr other ↦ absurd (readable (λ T is. both_ways b other (h T is)))
  ]

  pub fails : (b : Bool) → ForTerms parts (λ T. b ≡ false) → b ≡ false
  fails b h = elim (cases_Bool b) [
    | inl is_true ↦ absurd (readable (λ T is. both_ways b (h T is) is_true))
    | inr other ↦ other
  ]

  pub equal : (m n : ℕ) → ForTerms parts (λ T. m ≡ n) → m ≡ n
  equal m n h = eqb-true m n (holds (m == n) (λ T is. eq-eqb m n (h T is)))
