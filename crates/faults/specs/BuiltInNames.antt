-- The names that every plan may read, which are also columns of claim files and balance files.
use Rattle.std.specs.Prelude.{ℕ, List, codes}

-- the number of a claim
abbrev pub claim_name : List ℕ
claim_name = codes "claim"

-- the member's family, in a plan that keeps accumulators for families
abbrev pub family_name : List ℕ
family_name = codes "family"

-- the member
abbrev pub member_name : List ℕ
member_name = codes "member"

-- the day of service
abbrev pub service_name : List ℕ
service_name = codes "service"

-- the billed amount
abbrev pub billed_name : List ℕ
billed_name = codes "billed"

-- the deductible that the member has met
abbrev pub met_name : List ℕ
met_name = codes "met"

-- the amount that the member has paid out of pocket
abbrev pub oop_name : List ℕ
oop_name = codes "oop"

-- the amount that the plan has paid for the member
abbrev pub paid_name : List ℕ
paid_name = codes "paid"

-- the deductible that the family has met
abbrev pub family_met_name : List ℕ
family_met_name = codes "fmet"

-- the amount that the family has paid out of pocket
abbrev pub family_oop_name : List ℕ
family_oop_name = codes "foop"

-- the benefit year of a balance, which is a column alone
abbrev pub year_name : List ℕ
year_name = codes "year"
