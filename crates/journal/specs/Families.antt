-- The accumulators of a family are the sums over its members.
use Rattle.std.specs.Prelude.{◌≡◌, ℕ, zero, suc, ℤ, pos, ◌+ℤ◌, ◌==◌, ◌&&◌, Bool, true, false, cond, List, [], ◌∷◌, Option, Some, None, take}
use Rattle.std.specs.Str.{bytes_eq}
use Rattle.tables.specs.Plan.{PlanParts}
use Rattle.settlement.specs.Accounts.{Account, account_of, is_same}
use Rattle.settlement.specs.declared.account.Balance.{Balance}
use Rattle.settlement.specs.declared.claim.Claim.{Claim}
use Rattle.journal.specs.Events.{Book, before, claims}
use Rattle.journal.specs.Terms.{Terms}
use Rattle.journal.specs.declared.event.Event.{Event}

-- the sum of an amount over the members
abbrev pub sum_over : (List ℕ → ℤ) → List (List ℕ) → ℤ
sum_over number [] = pos 0
sum_over number (member ∷ rest) = number member +ℤ sum_over number rest

-- the number of times that the member is in the list
abbrev pub times : List ℕ → List (List ℕ) → ℕ
times member [] = zero
times member (other ∷ rest) = cond (bytes_eq member other) (suc (times member rest)) (times member rest)

-- the account of a member of the family in the year
abbrev pub member_of : List ℕ → ℕ → List ℕ → Account
member_of family year member = record { family = family; member = member; year = year }

-- the account is one of the family in the year
abbrev pub is_in : List ℕ → ℕ → Account → Bool
is_in family year account = bytes_eq account.family family && (account.year == year)

-- for each account of the family, `fmet` and `foop` are the sums of `met` and of `oop` over these
-- members
pub record IsSummed (family : List ℕ) (year : ℕ) (members : List (List ℕ)) (book : Book) : Type 0 where
  pub met : (m : List ℕ) → (book (member_of family year m)).fmet ≡ sum_over (λ x. (book (member_of family year x)).met) members
  pub oop : (m : List ℕ) → (book (member_of family year m)).foop ≡ sum_over (λ x. (book (member_of family year x)).oop) members

-- if the account is one of the family in the year, its member is in the list exactly once
abbrev pub IsAmong : List ℕ → ℕ → List (List ℕ) → Account → Type 0
IsAmong family year members account = is_in family year account ≡ true → times account.member members ≡ 1

-- the condition of `IsAmong` holds for the account of each of these claims
abbrev pub AreAmong : PlanParts → List ℕ → ℕ → List (List ℕ) → List (Option Claim) → Type 0
AreAmong plan family year members [] = Unit {0}
AreAmong plan family year members (None ∷ rest) = AreAmong plan family year members rest
AreAmong plan family year members (Some claim ∷ rest) = IsAmong family year members (account_of plan claim) × AreAmong plan family year members rest

-- the account has no balance
abbrev pub IsAbsent : Account → List (Account × Balance) → Type 0
IsAbsent account [] = Unit {0}
IsAbsent account (entry ∷ rest) = (is_same entry.0 account ≡ false) × IsAbsent account rest

-- the condition of `IsAmong` holds for the account of each of these balances, and no two balances
-- have the same account
abbrev pub AreOpenings : List ℕ → ℕ → List (List ℕ) → List (Account × Balance) → Type 0
AreOpenings family year members [] = Unit {0}
AreOpenings family year members (entry ∷ rest) =
    IsAmong family year members entry.0 × IsAbsent entry.0 rest × AreOpenings family year members rest

-- if the list has every member of the family that a balance, or a claim before the position, names
-- in the year, the accumulators of the family are the sums over the list
abbrev pub FamiliesAreTheirMembers : Type 0
FamiliesAreTheirMembers = (T : Terms) (J : List Event) (position : ℕ) (family : List ℕ) (year : ℕ) (members : List (List ℕ))
    → AreOpenings family year members T.balances → AreAmong T.plan family year members (take position (claims T J))
    → IsSummed family year members (before T J position)
