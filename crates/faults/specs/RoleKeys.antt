-- The roles of a plan, by key and by number.
use Rattle.std.specs.Prelude.{ℕ, List, codes}
use Rattle.faults.specs.declared.role_key.RoleKey.{RoleKey}
use Rattle.faults.specs.declared.role_key.RoleKey.TheVariants.{Cover, Fee, Deductible, Copay, Rate, OopMax, Remarks, FamilyDeductible, FamilyOopMax}

-- the key of a role in the plan's table `roles`
abbrev pub key_of : RoleKey → List ℕ
key_of Cover = codes "cover"
key_of Fee = codes "fee"
key_of Deductible = codes "deductible"
key_of Copay = codes "copay"
key_of Rate = codes "rate"
key_of OopMax = codes "oop_max"
key_of Remarks = codes "remarks"
key_of FamilyDeductible = codes "family_deductible"
key_of FamilyOopMax = codes "family_oop_max"

-- the number that messages print for a role
abbrev pub number_of : RoleKey → ℕ
number_of Cover = 1
number_of Fee = 2
number_of Deductible = 3
number_of Copay = 4
number_of Rate = 5
number_of OopMax = 6
number_of Remarks = 7
number_of FamilyDeductible = 8
number_of FamilyOopMax = 9
