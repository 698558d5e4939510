-- What the order of acceptance determines: outcomes, totals and the remittance, as functions of the
-- terms and of this order.
use Rattle.std.specs.Prelude.{◌≡◌, ◌<◌, ◌≤◌, ℕ, zero, suc, ℤ, pos, ◌+ℤ◌, true, List, [], ◌∷◌, ◌++◌, map, take, length, get_or, fold, Option, Some, None, option_map}
use Rattle.std.specs.Option.{option_and_then}
use Rattle.fixpoint.specs.Money.{money_text}
use Rattle.settlement.specs.Accounts.{account_of}
use Rattle.settlement.specs.Opening.{opening}
use Rattle.settlement.specs.declared.claim.Claim.{Claim}
use Rattle.settlement.specs.declared.outcome.Outcome.{Outcome}
use Rattle.intake_csv.specs.declared.rows.Row.{Row}
use Rattle.journal.specs.Terms.{Terms}
use Rattle.journal.specs.Settled.{outcome_of}
use Rattle.journal.specs.Events.{Book, Filed, claim_filed, noted}
use Rattle.remit_records.specs.declared.amount.Amount.{Amount}
use Rattle.remit_records.specs.Amounts.{amounts, amount_of}
use Rattle.remit_records.specs.Decided.{paid_by, position_from, sum_of}
use Rattle.remit_records.specs.Records.{header_fields, records_of, total_front}

-- the claims that are accepted in this order, by position
abbrev pub claims_by : Terms → List Filed → List (Option Claim)
claims_by T order = map (claim_filed T) order

-- the accumulators of each account before a position of this order
abbrev pub before_by : Terms → List Filed → ℕ → Book
before_by T order position = fold (noted T.plan) (opening T.balances) (take position (claims_by T order))

-- the settlement of a claim at a position of this order
abbrev pub settled_by : Terms → List Filed → ℕ → Claim → Outcome
settled_by T order position claim = outcome_of T.plan claim (before_by T order position (account_of T.plan claim))

-- the outcome of the claim at a position of this order, if there is one
abbrev pub outcome_by : Terms → List Filed → ℕ → Option Outcome
outcome_by T order position = option_map (settled_by T order position) (get_or (claims_by T order) position None)

-- the outcome of a provider's claim at a place, if it is accepted in this order
abbrev pub decided_by : Terms → List Filed → ℕ → ℕ → Option Outcome
decided_by T order provider place = option_and_then (outcome_by T order) (position_from 0 order provider place)

-- the sum of the values for the numbers 0 to n - 1
abbrev pub sum_below : ℕ → (ℕ → ℤ) → ℤ
sum_below zero part = pos 0
sum_below (suc n) part = sum_below n part +ℤ part n

-- the part of an outcome in the sum of an amount; only a paid claim adds to it
abbrev pub paid_part : (Outcome → ℤ) → Option Outcome → ℤ
paid_part amount None = pos 0
paid_part amount (Some decision) = sum_of amount (paid_by decision.verdict decision)

-- the sum of an amount over the paid claims of an order, position by position
abbrev pub total_by : Terms → List Filed → (Outcome → ℤ) → ℤ
total_by T order amount = sum_below (length order) (λ position. paid_part amount (outcome_by T order position))

abbrev pub total_text_by : Terms → List Filed → Amount → List ℕ
total_text_by T order amount = money_text (total_by T order (amount_of amount))

-- the records of the remittance if claims are accepted in this order
abbrev pub report_by : ℕ → Terms → List Filed → List (List Row) → List (List (List ℕ))
report_by version T order files =
    header_fields version
    ∷ (records_of (record { version = version; decided = decided_by T order }) 1 files
    ++ (total_front version (length order) ++ (map (total_text_by T order) amounts ++ [] ∷ [])) ∷ [])
