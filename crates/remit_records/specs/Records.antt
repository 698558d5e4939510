-- The records of the remittance, by their fields.
use Rattle.std.specs.Prelude.{ℕ, suc, Bool, true, false, List, [], ◌∷◌, ◌++◌, codes, decimal, map, Option, Some, None}
use Rattle.fixpoint.specs.Money.{money_text}
use Rattle.feel_tests.specs.Calendar.{year_of, year_text}
use Rattle.tables.specs.Plan.{has_families, has_years}
use Rattle.settlement.specs.Accounts.{family_of}
use Rattle.settlement.specs.declared.claim.Claim.{Claim}
use Rattle.settlement.specs.declared.outcome.Outcome.{Outcome}
use Rattle.settlement.specs.declared.outcome.Verdict.{Verdict}
use Rattle.settlement.specs.declared.outcome.Verdict.TheVariants.{Paid, Denied, Pended}
use Rattle.faults.specs.ReasonText.{reason_text}
use Rattle.faults.specs.declared.file_fault.RowFault.{RowFault}
use Rattle.intake_csv.specs.declared.rows.Row.{Row}
use Rattle.intake_csv.specs.declared.rows.Row.TheVariants.{Good, Bad}
use Rattle.journal.specs.Events.{accepted_count}
use Rattle.journal.specs.declared.event.Event.{Event}
use Rattle.remit_records.specs.declared.amount.Amount.{Amount}
use Rattle.remit_records.specs.Amounts.{amounts, name_of, amount_of}
use Rattle.remit_records.specs.Decided.{paid_outcomes, sum_of}
use Rattle.remit_records.specs.FieldTexts.{fault_text, remarks_text}

-- the plan's version, and the outcome of each claim by its provider and its place
pub record Deciding : Type 0 where
  pub version : ℕ
  pub decided : ℕ → ℕ → Option Outcome

-- the field of the benefit year, if the plan keeps accumulators by benefit year
abbrev pub year_fields : Bool → List ℕ → List (List ℕ)
year_fields true text = text ∷ []
year_fields false text = []

-- the field of the family, if the plan keeps accumulators for families
abbrev pub family_fields : Bool → List ℕ → List (List ℕ)
family_fields true text = text ∷ []
family_fields false text = []

-- the identifiers of a record: the claim, its family, its member and its benefit year
abbrev pub whose_fields : ℕ → List ℕ → List ℕ → List ℕ → List ℕ → List (List ℕ)
whose_fields version claim family member year = claim ∷ (family_fields (has_families version) family ++ member ∷ year_fields (has_years version) year)

-- the names of the fields before the amounts
abbrev pub front_names : ℕ → List (List ℕ)
front_names version =
    codes "provider" ∷ codes "record"
    ∷ (whose_fields version (codes "claim") (codes "family") (codes "member") (codes "year") ++ codes "status" ∷ codes "reason" ∷ [])

-- the fields of the header
abbrev pub header_fields : ℕ → List (List ℕ)
header_fields version = front_names version ++ (map name_of amounts ++ codes "remarks" ∷ [])

-- the part of a record after the identifiers: its status and the fields that follow it
pub record StatusFields : Type 0 where
  pub status : List ℕ
  pub reason : List ℕ
  pub amounts : List (List ℕ)
  pub remarks : List ℕ

-- the fields of this part, in order
abbrev pub status_fields : StatusFields → List (List ℕ)
status_fields reported = reported.status ∷ reported.reason ∷ (reported.amounts ++ reported.remarks ∷ [])

-- the amounts of an outcome, as money
abbrev pub amounts_of : Outcome → List (List ℕ)
amounts_of decision = map (λ amount. money_text (amount_of amount decision)) amounts

-- the amounts of a denied or pended claim
abbrev pub zeros : List (List ℕ)
zeros = map (λ amount. codes "0.00") amounts

-- the empty fields of a record without amounts
abbrev pub no_amounts : List (List ℕ)
no_amounts = map (λ amount. []) amounts

-- the status part of a decided claim; a pended claim has a reason and no remarks
abbrev pub reported_by : Verdict → Outcome → StatusFields
reported_by Paid decision = record { status = codes "paid"; reason = []; amounts = amounts_of decision; remarks = remarks_text decision.remarks }
reported_by Denied decision = record { status = codes "denied"; reason = []; amounts = zeros; remarks = remarks_text decision.remarks }
reported_by (Pended reason) decision = record { status = codes "pended"; reason = reason_text reason; amounts = zeros; remarks = [] }

-- the status part of a claim; a claim without an outcome came too late to be accepted
abbrev pub reported_of : Option Outcome → StatusFields
reported_of (Some decision) = reported_by decision.verdict decision
reported_of None = record { status = codes "late"; reason = []; amounts = no_amounts; remarks = [] }

-- the status part of a refused record
abbrev pub reported_refused : RowFault → StatusFields
reported_refused fault = record { status = codes "refused"; reason = fault_text fault; amounts = no_amounts; remarks = [] }

-- the fields for a record of a provider's file: the provider, the record's number, the identifiers and the status part
abbrev pub line_of : ℕ → ℕ → List (List ℕ) → StatusFields → List (List ℕ)
line_of provider number whose reported = decimal provider ∷ decimal number ∷ (whose ++ status_fields reported)

-- the identifiers of a claim; its benefit year is the year of its service
abbrev pub id_column_fields : ℕ → Claim → List (List ℕ)
id_column_fields version claim = whose_fields version claim.id (family_of claim) claim.member (year_text (year_of claim.service))

-- the fields for a row of a provider's file under these decisions
abbrev pub record_of : Deciding → ℕ → Row → List (List ℕ)
record_of by provider (Good number place claim) =
    line_of provider number (id_column_fields by.version claim) (reported_of (by.decided provider place))
record_of by provider (Bad number fault) = line_of provider number (whose_fields by.version [] [] [] []) (reported_refused fault)

-- the records for the rows of the providers' files, in the order of the files, the first of which is this provider's
abbrev pub records_of : Deciding → ℕ → List (List Row) → List (List (List ℕ))
records_of by provider [] = []
records_of by provider (rows ∷ rest) = map (record_of by provider) rows ++ records_of by (suc provider) rest

-- the sum of an amount over the paid claims of a journal, as money
abbrev pub total_text : List Event → Amount → List ℕ
total_text J amount = money_text (sum_of (amount_of amount) (paid_outcomes J))

-- the fields of the record of totals before the amounts: the word `total`, the number of accepted claims, and empty fields
abbrev pub total_front : ℕ → ℕ → List (List ℕ)
total_front version count = codes "total" ∷ decimal count ∷ (whose_fields version [] [] [] [] ++ [] ∷ [] ∷ [])

-- the record of totals, the last one: the number of accepted claims, and the sums over the paid claims
abbrev pub total_fields : ℕ → List Event → List (List ℕ)
total_fields version J = total_front version (accepted_count J) ++ (map (total_text J) amounts ++ [] ∷ [])
