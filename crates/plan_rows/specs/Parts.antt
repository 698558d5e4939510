-- The parts of a settlement that a column of a file of tests can expect: the fields of the remittance's records.
use Rattle.std.specs.Prelude.{ℕ, ℤ, ◌||◌, ◌++◌, Bool, List, [], ◌∷◌, codes}
use Rattle.std.specs.Str.{bytes_eq}
use Rattle.faults.specs.ReasonText.{reason_text}
use Rattle.settlement.specs.declared.outcome.Outcome.{Outcome}
use Rattle.settlement.specs.declared.outcome.Verdict.{Verdict}
use Rattle.settlement.specs.declared.outcome.Verdict.TheVariants.{Paid as IsPaid, Denied, Pended}
use Rattle.plan_rows.specs.declared.part.Amount.{Amount as PartAmount}
use Rattle.plan_rows.specs.declared.part.Amount.TheVariants.{Allowed, Deductible, Copay, Coinsurance, Share, Paid}
use Rattle.plan_rows.specs.declared.part.Part.{Part}
use Rattle.plan_rows.specs.declared.part.Part.TheVariants.{Status, Reason, Amount}

-- the parts, in the order of the remittance
abbrev pub parts : List Part
parts =
    Status ∷ Reason ∷ Amount Allowed ∷ Amount Deductible ∷ Amount Copay ∷ Amount Coinsurance ∷ Amount Share ∷ Amount Paid ∷ []

-- the name of an amount in the remittance
abbrev pub amount_word : PartAmount → List ℕ
amount_word Allowed = codes "allowed"
amount_word Deductible = codes "ded"
amount_word Copay = codes "copay"
amount_word Coinsurance = codes "coins"
amount_word Share = codes "share"
amount_word Paid = codes "paid"

-- the name of a part in the remittance
abbrev pub part_word : Part → List ℕ
part_word Status = codes "status"
part_word Reason = codes "reason"
part_word (Amount amount) = amount_word amount

-- the same after the word for a settlement
abbrev pub amount_full_word : PartAmount → List ℕ
amount_full_word amount = codes "settled:" ++ amount_word amount

abbrev pub full_word : Part → List ℕ
full_word part = codes "settled:" ++ part_word part

-- a column with this name expects the part
abbrev pub is_part_name : Part → List ℕ → Bool
is_part_name part name = bytes_eq name (part_word part) || bytes_eq name (full_word part)

-- an amount of an outcome, in units
abbrev pub amount_of : PartAmount → Outcome → ℤ
amount_of Allowed o = o.allowed
amount_of Deductible o = o.ded
amount_of Copay o = o.copay
amount_of Coinsurance o = o.coins
amount_of Share o = o.share
amount_of Paid o = o.paid

-- the word for a verdict
abbrev pub status_word : Verdict → List ℕ
status_word IsPaid = codes "paid"
status_word Denied = codes "denied"
status_word (Pended reason) = codes "pended"

-- the reason why a claim pends; empty if it does not
abbrev pub pending_text : Verdict → List ℕ
pending_text IsPaid = []
pending_text Denied = []
pending_text (Pended reason) = reason_text reason
