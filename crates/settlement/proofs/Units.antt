-- The two cases of a role: it has units, or it is the error.
use Rattle.std.proofs.Common.{◌≡◌, ℤ, Option, Some, None, Ok, Err}
use Rattle.std.specs.Option.{ok_or}
use Rattle.faults.specs.declared.role.Role.{Role}

pub units_there : (found : Option ℤ) (role : Role) (units : ℤ) → Ok units ≡ ok_or found role → found ≡ Some units
units_there None role units is = absurd cc
units_there (Some other) role units is = cc

pub units_lacking : (found : Option ℤ) (role reported : Role) → Err reported ≡ ok_or found role → (found ≡ None) × (reported ≡ role)
units_lacking None role reported is = (cc, cc)
units_lacking (Some other) role reported is = absurd cc
