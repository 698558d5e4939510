-- The accounts of a family, as far as its claims are settled.
use Rattle.std.specs.Prelude.{◌≡◌, ◌==◌, ◌&&◌, ℕ, Bool, cond, List, fold, slice_get, take, Some, None}
use Rattle.std.specs.Str.{bytes_eq}
use Rattle.tables.specs.Plan.{PlanParts}
use Rattle.settlement.specs.Accounts.{Account, account_of, account_year}
use Rattle.settlement.specs.Accumulators.{after}
use Rattle.settlement.specs.Opening.{opening}
use Rattle.settlement.specs.Settlement.{outcome}
use Rattle.settlement.specs.declared.acc.Acc.{Acc}
use Rattle.settlement.specs.declared.claim.Claim.{Claim}
use Rattle.intake_csv.specs.Balances.{accounts_of}
use Rattle.journal.specs.Events.{Book, Filed}
use Rattle.journal.specs.Terms.{Terms}
use Rattle.claim_gate.specs.Terms.{TermsParts}
use Rattle.journal.specs.Places.{merge_acc}
use Rattle.orders.specs.Order.{before_by}
use Rattle.explanation.specs.Cases.{IsPlaceOf, last_of}
use Rattle.explanation.specs.declared.family.LastClaim.{LastClaim}
use Rattle.explanation.specs.declared.family.Standing.{Standing}
use Rattle.explanation.specs.declared.row.Place.{Place}

-- an account after one more claim of its family: a claim of the account itself leaves its accumulators and is its last one, and a claim of
-- another member in the same year leaves the sums of the family
abbrev pub merged : Bool → Bool → LastClaim → Standing → Standing
merged own shared last standing = record { acc = merge_acc own shared last.acc standing.acc; last = cond own (Some last.place) standing.last }

abbrev pub left_by : Account → Standing → LastClaim → Standing
left_by account standing last = merged ((last.year == account.year) && bytes_eq last.member account.member) (last.year == account.year) last standing

-- an account before the first claim of its family
abbrev pub begun_with : Acc → Standing
begun_with acc = record { acc = acc; last = None }

-- an account with these opening accumulators after claims of its family
abbrev pub present : Account → Acc → List LastClaim → Standing
present account begun lasts = fold (left_by account) (begun_with begun) lasts

-- the opening accumulators of accounts
abbrev pub opened : TermsParts → Book
opened parts account = opening (accounts_of parts.balances) account

-- the account of a claim of the family, before the claim
abbrev pub present_for : PlanParts → Book → List LastClaim → Claim → Standing
present_for plan begun lasts claim = let account = account_of plan claim in present account (begun account) lasts

-- a claim of the family, with what it leaves
abbrev pub left_after : PlanParts → Book → List LastClaim → Place → Claim → LastClaim
left_after plan begun lasts place claim =
    let acc = (present_for plan begun lasts claim).acc in
    record { member = claim.member; year = account_year plan claim; acc = after acc (outcome plan claim acc); place = place }

-- each account has what it has after the old claims and then this one
abbrev pub Adds : List LastClaim → List LastClaim → LastClaim → Type 0
Adds old new last = (account : Account) (begun : Acc) → present account begun new ≡ left_by account (present account begun old) last

-- the claim at the index is one of the same account as this one
pub record IsOfAccountAt (lasts : List LastClaim) (index : ℕ) (last : LastClaim) : Type 0 where
  pub found : LastClaim
  pub there : slice_get lasts index ≡ Some found
  pub year : found.year ≡ last.year
  pub member : found.member ≡ last.member

-- the account has these accumulators and this last claim after the first claims of an order, as many as are counted
pub record IsStanding (parts : TermsParts) (T : Terms) (claims : List Filed) (count : ℕ) (account : Account) (standing : Standing) : Type 0 where
  pub acc : standing.acc ≡ before_by T claims count account
  pub last : IsPlaceOf parts T (last_of T account (take count claims)) standing.last

-- each account of the family has what its claims have left, after the first claims of an order
abbrev pub AreLeft : TermsParts → Terms → List Filed → ℕ → List ℕ → List LastClaim → Type 0
AreLeft parts T claims count family lasts =
    (account : Account) → account.family ≡ family → IsStanding parts T claims count account (present account (opening T.balances account) lasts)
