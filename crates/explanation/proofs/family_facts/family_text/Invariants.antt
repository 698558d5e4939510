use Rattle.std.proofs.Common.{◌≡◌}
use Rattle.explanation.specs.Walking.{AreReaders}
use Rattle.explanation.proofs.FamilyFacts.{AreExplained}
use Rattle.explanation.proofs.family_facts.family_text.Given as goal

-- the claims so far are explained, those of the family
abbrev pub invariant-claims : goal.invariant-claims
invariant-claims l =
    AreExplained l.terms l.family l.format l.walk.claims l.walk.position l.walk.lasts.items l.text.items l.is_found × AreReaders l.terms l.walk.readers.items × (l.adjudicator ≡ l.terms.plan)

-- the number of claims that are left
abbrev pub decreases-claims : goal.decreases-claims
decreases-claims l = l.walk.claims.left
