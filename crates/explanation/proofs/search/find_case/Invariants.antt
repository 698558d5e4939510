use Rattle.std.proofs.Common.{◌≡◌, ◌≤◌}
use Rattle.settlement.specs.Accounts.{family_of}
use Rattle.ordered_claims.specs.OrderedParts.{given_of}
use Rattle.explanation.specs.Walking.{AreReaders, AreSettled}
use Rattle.explanation.proofs.search.find_case.Given as goal

-- the claims so far are passed, and the claim that is wanted is not among them
abbrev pub invariant-claims : goal.invariant-claims
invariant-claims l =
    AreSettled l.terms (family_of l.wanted.claim.now) l.walk.claims l.walk.position l.walk.lasts.items × AreReaders l.terms l.walk.readers.items
    × (given_of l.walk.claims l.wanted.provider ≤ l.wanted.place) × (l.adjudicator ≡ l.terms.plan)

-- the number of claims that are left
abbrev pub decreases-claims : goal.decreases-claims
decreases-claims l = l.walk.claims.left
