-- What claims add to accounts, and the totals of entries, in which an account may occur repeatedly.
use Rattle.std.specs.Prelude.{◌≡◌, ℕ, suc, ◌+ℤ◌, Bool, List, [], ◌∷◌, ◌++◌, flat_map, Option, Some, None}
use Rattle.tables.specs.Plan.{PlanParts}
use Rattle.settlement.specs.Accounts.{Account, account_of, is_family_year, is_same, part}
use Rattle.settlement.specs.Claim.{nothing_yet}
use Rattle.settlement.specs.declared.acc.Acc.{Acc}
use Rattle.settlement.specs.declared.account.Balance.{Balance}
use Rattle.settlement.specs.declared.claim.Claim.{Claim}
use Rattle.settlement.specs.declared.outcome.Outcome.{Outcome}
use Rattle.intake_csv.specs.Balances.{Entry}
use Rattle.intake_csv.specs.Rows.{RowsLeft}
use Rattle.intake_csv.specs.declared.rows.Row.{Row}
use Rattle.intake_csv.specs.declared.rows.Row.TheVariants.{Good, Bad}
use Rattle.remit_records.specs.Records.{Deciding}
use Rattle.remit_records.specs.Rows.{AreRead, GivesAll, IsRead}

-- the sum of two balances
abbrev pub added : Balance → Balance → Balance
added one other = record { met = one.met +ℤ other.met; oop = one.oop +ℤ other.oop; paid = one.paid +ℤ other.paid }

-- what an outcome leaves in the account of its claim: the deductible is met, the share is paid out
-- of pocket, and the plan pays its part
abbrev pub charge_of : Outcome → Balance
charge_of decision = record { met = decision.ded; oop = decision.share; paid = decision.paid }

-- the accumulators after a balance is added: to the member's own amounts if `own` is true, and to
-- the family's sums if `shared` is true
abbrev pub adds : Bool → Bool → Balance → Acc → Acc
adds own shared balance acc = record {
  met = acc.met +ℤ part own balance.met;
  oop = acc.oop +ℤ part own balance.oop;
  paid = acc.paid +ℤ part own balance.paid;
  fmet = acc.fmet +ℤ part shared balance.met;
  foop = acc.foop +ℤ part shared balance.oop;
}

-- the sums over the entries of an account, and over those of its family in its year
abbrev pub totals : List Entry → Account → Acc
totals [] account = nothing_yet
totals (entry ∷ rest) account = adds (is_same entry.0 account) (is_family_year entry.0 account) entry.1 (totals rest account)

-- the sums of accumulators
abbrev pub plus : Acc → Acc → Acc
plus one other = record {
  met = one.met +ℤ other.met;
  oop = one.oop +ℤ other.oop;
  paid = one.paid +ℤ other.paid;
  fmet = one.fmet +ℤ other.fmet;
  foop = one.foop +ℤ other.foop;
}

-- the new entries have the totals of the old ones and of these charges, for every account
abbrev pub Posts : List Entry → List Entry → List Entry → Type 0
Posts charges old new = (account : Account) → totals new account ≡ plus (totals old account) (totals charges account)

-- what a claim adds, if it is decided
abbrev pub charges_by : PlanParts → Claim → Option Outcome → List Entry
charges_by plan claim None = []
charges_by plan claim (Some decision) = (account_of plan claim, charge_of decision) ∷ []

-- what a row of a provider's file adds
abbrev pub row_charges : PlanParts → Deciding → ℕ → Row → List Entry
row_charges plan by provider (Good number place claim) = charges_by plan claim (by.decided provider place)
row_charges plan by provider (Bad number fault) = []

-- what the rows of a provider's file add
abbrev pub file_charges : PlanParts → Deciding → ℕ → List Row → List Entry
file_charges plan by provider rows = flat_map (row_charges plan by provider) rows

-- what the rows of the providers' files add, the first of which is this provider's
abbrev pub files_charges : PlanParts → Deciding → ℕ → List (List Row) → List Entry
files_charges plan by provider [] = []
files_charges plan by provider (rows ∷ rest) = file_charges plan by provider rows ++ files_charges plan by (suc provider) rest

-- what the remaining rows of a reader add is added
pub record LeftArePosted (plan : PlanParts) (by : Deciding) (provider : ℕ) (left : RowsLeft) (old new : List Entry) : Type 0 where
  pub rows : List Row
  pub all : GivesAll left rows
  pub posted : Posts (file_charges plan by provider rows) old new

-- what the rows of a provider's file with this text add is added
pub record FileIsPosted (plan : PlanParts) (by : Deciding) (provider : ℕ) (text : List ℕ) (old new : List Entry) : Type 0 where
  pub rows : List Row
  pub read : IsRead plan.names text rows
  pub posted : Posts (file_charges plan by provider rows) old new

-- what the rows of the providers' files with these texts add is added
pub record FilesArePosted (plan : PlanParts) (by : Deciding) (texts : List (List ℕ)) (old new : List Entry) : Type 0 where
  pub files : List (List Row)
  pub read : AreRead plan.names texts files
  pub posted : Posts (files_charges plan by 1 files) old new
