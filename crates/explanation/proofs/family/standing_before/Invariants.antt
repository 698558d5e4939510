use Rattle.std.proofs.Common.{◌≡◌, take}
use Rattle.settlement.specs.Accounts.{account_of}
use Rattle.explanation.specs.Families.{opened, present}
use Rattle.explanation.proofs.family.standing_before.Given as goal

-- the account after the claims so far
abbrev pub invariant-loop-last : goal.invariant-loop-last
invariant-loop-last l =
    let account = account_of l.terms.plan l.claim in
    l.standing ≡ present account (opened l.terms account) (take l.last-index l.lasts)
