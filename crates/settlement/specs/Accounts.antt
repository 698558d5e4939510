-- Accounts: the keys of accumulators. An account is a member of a family in a benefit year.
use Rattle.std.specs.Prelude.{ℕ, ℤ, pos, ◌+ℤ◌, ◌==◌, ◌&&◌, Bool, cond, List, Option, Some, None}
use Rattle.std.specs.Str.{bytes_eq}
use Rattle.feel_tests.specs.Calendar.{year_of}
use Rattle.tables.specs.Plan.{PlanParts, keeps_years}
use Rattle.settlement.specs.declared.acc.Acc.{Acc}
use Rattle.settlement.specs.declared.claim.Claim.{Claim}
use Rattle.settlement.specs.declared.outcome.Outcome.{Outcome}

-- a member of a family in a benefit year
pub record Account : Type 0 where
  pub family : List ℕ
  pub member : List ℕ
  pub year : ℕ

-- the name if there is one, and otherwise the other name
abbrev pub named_or : Option (List ℕ) → List ℕ → List ℕ
named_or None other = other
named_or (Some name) other = name

-- the family of a claim: its own if it names one, and otherwise the member
abbrev pub family_of : Claim → List ℕ
family_of claim = named_or claim.family claim.member

-- the benefit year of a claim: the calendar year of its service, or 0 if the plan does not keep
-- accumulators by benefit year
abbrev pub account_year : PlanParts → Claim → ℕ
account_year plan claim = cond (keeps_years plan) (year_of claim.service) 0

-- the account of a claim in a given year
abbrev pub account_in : ℕ → Claim → Account
account_in year claim = record { family = family_of claim; member = claim.member; year = year }

-- the account of a claim
abbrev pub account_of : PlanParts → Claim → Account
account_of plan claim = account_in (account_year plan claim) claim

-- the account in a year of a member who is its own family
abbrev pub own_account : List ℕ → ℕ → Account
own_account member year = record { family = member; member = member; year = year }

-- both accounts belong to one family and year
abbrev pub is_family_year : Account → Account → Bool
is_family_year a b = bytes_eq a.family b.family && (a.year == b.year)

-- both accounts are equal
abbrev pub is_same : Account → Account → Bool
is_same a b = is_family_year a b && bytes_eq a.member b.member

-- the amount if it counts, and otherwise zero
abbrev pub part : Bool → ℤ → ℤ
part b amount = cond b amount (pos 0)

-- the accumulators after an outcome, which adds to the member's own amounts if `own` is true, and
-- to the family's sums if `shared` is true
abbrev pub grown : Bool → Bool → Acc → Outcome → Acc
grown own shared acc outcome = record {
  met = acc.met +ℤ part own outcome.ded;
  oop = acc.oop +ℤ part own outcome.share;
  paid = acc.paid +ℤ part own outcome.paid;
  fmet = acc.fmet +ℤ part shared outcome.ded;
  foop = acc.foop +ℤ part shared outcome.share;
}
