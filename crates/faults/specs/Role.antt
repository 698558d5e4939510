-- The roles with numbers as values, by key and by number.
use Rattle.std.specs.Prelude.{ℕ}
use Rattle.faults.specs.declared.role.Role.{Role}
use Rattle.faults.specs.declared.role.Role.TheVariants.{Fee, Deductible, Copay, Rate, OopMax, FamilyDeductible, FamilyOopMax}
use Rattle.faults.specs.declared.role_key.RoleKey.{RoleKey}
use Rattle.faults.specs.declared.role_key.RoleKey.TheVariants as keys
use Rattle.faults.specs.RoleKeys.{number_of as number_of_key}

-- the same role among all roles of a plan
abbrev pub key_of : Role → RoleKey
key_of Fee = keys.Fee
key_of Deductible = keys.Deductible
key_of Copay = keys.Copay
key_of Rate = keys.Rate
key_of OopMax = keys.OopMax
key_of FamilyDeductible = keys.FamilyDeductible
key_of FamilyOopMax = keys.FamilyOopMax

-- the number that messages print for a role
abbrev pub number_of : Role → ℕ
number_of role = number_of_key (key_of role)
