-- The record that is explained, and what comes before its claim in an order of acceptance.
use Rattle.std.specs.Prelude.{◌≡◌, ◌<◌, ◌≤◌, ◌-◌, ℕ, Bool, false, cond, List, [], ◌∷◌, ◌++◌, fold, get_or, length, slice_get, Option, Some, None}
use Rattle.tables.specs.Plan.{PlanParts}
use Rattle.tables.specs.declared.table.InputData.{InputData}
use Rattle.settlement.specs.Accounts.{Account, account_of, is_same}
use Rattle.settlement.specs.declared.claim.Claim.{Claim}
use Rattle.intake_csv.specs.Rows.{AreRowsOf}
use Rattle.intake_csv.specs.declared.rows.Row.{Row}
use Rattle.intake_csv.specs.declared.rows.Row.TheVariants.{Good}
use Rattle.journal.specs.Events.{Filed, claim_filed}
use Rattle.journal.specs.InOrder.{AreFirstInOrder, filed_count}
use Rattle.journal.specs.Terms.{Terms}
use Rattle.claim_gate.specs.Terms.{TermsParts}
use Rattle.orders.specs.Order.{before_by}
use Rattle.explanation.specs.declared.family.Standing.{Standing}
use Rattle.explanation.specs.declared.row.Place.{Place}
use Rattle.explanation.specs.declared.search.Case.{Case}
use Rattle.explanation.specs.declared.search.Wanted.{Wanted}

-- the claim that is wanted, by its provider and its place
abbrev pub filed_of : Wanted → Filed
filed_of wanted = record { provider = wanted.provider; place = wanted.place }

-- the row is the one of the text's record with this number, from 1; there is none if the text has fewer records
abbrev pub IsRowAt : List InputData → List ℕ → ℕ → Option Row → Type 0
IsRowAt names text number found = (rows : List Row) → AreRowsOf names text rows → found ≡ slice_get rows (number - 1)

-- the record of the claim that a provider has filed has this number in the provider's file
abbrev pub IsNumberOf : TermsParts → Terms → Filed → ℕ → Type 0
IsNumberOf parts T filed number =
    (claim : Claim) → claim_filed T filed ≡ Some claim
    → IsRowAt parts.plan.names (get_or parts.files (filed.provider - 1) []) number (Some (Good number filed.place claim))

-- the place is that of the claim's record; or there is neither a claim nor a place
abbrev pub IsPlaceOf : TermsParts → Terms → Option Filed → Option Place → Type 0
IsPlaceOf parts T None None = Unit {0}
IsPlaceOf parts T (Some filed) (Some place) = (place.provider ≡ filed.provider) × IsNumberOf parts T filed place.number
IsPlaceOf parts T _ _ = ⊥

-- the claim is one of the account
abbrev pub is_of_account : PlanParts → Account → Option Claim → Bool
is_of_account plan account None = false
is_of_account plan account (Some claim) = is_same (account_of plan claim) account

-- the last claim of the account, after one more claim
abbrev pub last_with : Terms → Account → Option Filed → Filed → Option Filed
last_with T account last filed = cond (is_of_account T.plan account (claim_filed T filed)) (Some filed) last

-- the last of these claims that is one of the account, if there is one
abbrev pub last_of : Terms → Account → List Filed → Option Filed
last_of T account claims = fold (last_with T account) None claims

-- the position is below the cutoff, if there is one
abbrev pub IsWithin : Option ℕ → ℕ → Type 0
IsWithin cutoff position = (count : ℕ) → cutoff ≡ Some count → position < count

-- the claim is accepted in the order at this position, and before it its account has these accumulators and this last claim
pub record IsAccepted (parts : TermsParts) (T : Terms) (filed : Filed) (claim : Claim) (position : ℕ) (before : Standing) : Type 0 where
  pub earlier : List Filed
  pub in_order : AreFirstInOrder parts.order T.files (earlier ++ filed ∷ [])
  pub counted : position ≡ length earlier
  pub within : IsWithin T.cutoff position
  pub acc : before.acc ≡ before_by T earlier position (account_of T.plan claim)
  pub last : IsPlaceOf parts T (last_of T (account_of T.plan claim) earlier) before.last

-- the claims that the cutoff admits are accepted in the order, and this one is not among them
pub record IsLate (parts : TermsParts) (T : Terms) (filed : Filed) (cutoff : ℕ) : Type 0 where
  pub admitted : T.cutoff ≡ Some cutoff
  pub claims : List Filed
  pub in_order : AreFirstInOrder parts.order T.files claims
  pub counted : cutoff ≡ length claims
  pub missing : filed_count filed.provider claims ≤ filed.place

-- the claim is accepted at this position after what is before it, or late
abbrev pub IsCase : TermsParts → Terms → Filed → Claim → Case → Type 0
IsCase parts T filed claim (Case.Accepted position before) = IsAccepted parts T filed claim position before
IsCase parts T filed claim (Case.Late cutoff) = IsLate parts T filed cutoff
