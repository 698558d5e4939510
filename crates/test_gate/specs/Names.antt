-- Names in the order in which they were added.
use Rattle.std.specs.Prelude.{◌≡◌, ℕ, Some, slice_get}
use Rattle.test_gate.specs.declared.agreeing.Names.{Names}

-- the name is at this index, from 0
abbrev pub HasName : Names → ℕ → ℕ → Type 0
HasName names place name = slice_get names.noted.items place ≡ Some name
