-- The amounts of the remittance's records.
use Rattle.std.specs.Prelude.{ℕ, ℤ, List, [], ◌∷◌, codes}
use Rattle.settlement.specs.declared.outcome.Outcome.{Outcome}
use Rattle.remit_records.specs.declared.amount.Amount.{Amount}
use Rattle.remit_records.specs.declared.amount.Amount.TheVariants.{Allowed, Deductible, Copay, Coinsurance, Share, Paid}

-- the amounts in the header, in each record and in the totals, in the order of their fields
abbrev pub amounts : List Amount
amounts = Allowed ∷ Deductible ∷ Copay ∷ Coinsurance ∷ Share ∷ Paid ∷ []

-- the name of an amount's field in the header
abbrev pub name_of : Amount → List ℕ
name_of Allowed = codes "allowed"
name_of Deductible = codes "ded"
name_of Copay = codes "copay"
name_of Coinsurance = codes "coins"
name_of Share = codes "share"
name_of Paid = codes "paid"

-- an amount of an outcome, in units
abbrev pub amount_of : Amount → Outcome → ℤ
amount_of Allowed o = o.allowed
amount_of Deductible o = o.ded
amount_of Copay o = o.copay
amount_of Coinsurance o = o.coins
amount_of Share o = o.share
amount_of Paid o = o.paid
