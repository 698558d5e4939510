-- The facts of a claim, added one after another.
use Rattle.std.specs.Prelude.{codes}
use Rattle.std.proofs.Common.{◌≡◌, List, [], ◌∷◌, ◌++◌}
use Rattle.feel_tests.specs.Value.{literal_text}
use Rattle.feel_tests.specs.declared.value.Value.TheVariants.{Day}
use Rattle.fixpoint.specs.Money.{money_text}
use Rattle.settlement.specs.declared.claim.Claim.{Claim}
use Rattle.explanation.specs.Facts.{FactParts, fact}
use Rattle.explanation.specs.Steps.{claim_facts}
use Rattle.explanation.proofs.Appending.{four}

pub claim_added : (claim : Claim) (s a b c d : List FactParts) → a ≡ s ++ fact (codes "this claim") (codes "identifier") claim.id ∷ []
    → b ≡ a ++ fact (codes "this claim") (codes "member") claim.member ∷ [] → c ≡ b ++ fact (codes "this claim") (codes "day of service") (literal_text (Day claim.service)) ∷ []
    → d ≡ c ++ fact (codes "this claim") (codes "billed") (money_text claim.billed) ∷ [] → d ≡ s ++ claim_facts claim
claim_added claim s a b c d one other third last = four s a b c d _ _ _ _ one other third last
