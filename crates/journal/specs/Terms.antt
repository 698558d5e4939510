-- The terms of a run: what is fixed before it begins.
use Rattle.std.specs.Prelude.{◌≤◌, ℕ, zero, suc, ◌+◌, min, List, [], ◌∷◌, Option, Some, None, get_or, length}
use Rattle.tables.specs.Plan.{PlanParts}
use Rattle.settlement.specs.Accounts.{Account}
use Rattle.settlement.specs.declared.account.Balance.{Balance}
use Rattle.settlement.specs.declared.claim.Claim.{Claim}

-- the plan, the claims of each provider's file in the order of the file, the opening balances of
-- accounts, and the maximum number of accepted claims
pub record Terms : Type 0 where
  pub plan : PlanParts
  pub files : List (List Claim)
  pub balances : List (Account × Balance)
  pub cutoff : Option ℕ

-- providers are numbered from 1
pub record IsProvider (T : Terms) (provider : ℕ) : Type 0 where
  pub least : 1 ≤ provider
  pub most : provider ≤ length T.files

-- the claims of the file with this number, counted from 1; there are none if no file has the number
abbrev pub claims_in : List (List Claim) → ℕ → List Claim
claims_in files zero = []
claims_in files (suc i) = get_or files i []

-- the claims of a provider
abbrev pub claims_of : Terms → ℕ → List Claim
claims_of T provider = claims_in T.files provider

abbrev pub claims_in_all : List (List Claim) → ℕ
claims_in_all [] = 0
claims_in_all (file ∷ rest) = length file + claims_in_all rest

-- the number of claims in all files
abbrev pub all_claims : Terms → ℕ
all_claims T = claims_in_all T.files

-- the given number, or the cutoff if there is one and it is less
abbrev pub at_most : Option ℕ → ℕ → ℕ
at_most None n = n
at_most (Some cutoff) n = min cutoff n
