-- The number that a link stores.
use Rattle.std.specs.Prelude.{◌≡◌, ℕ, zero, suc, Option, Some, None, refl}

-- the position of a stored number, which is one more than the position, or 0 if there is none
abbrev pub stored_position : ℕ → Option ℕ
stored_position zero = None
stored_position (suc position) = Some position

-- the number that is stored for a position
abbrev pub stored_number : Option ℕ → ℕ
stored_number None = zero
stored_number (Some position) = suc position

-- the number that is stored for the position of a stored number is that number
pub stored_again : (number : ℕ) → stored_number (stored_position number) ≡ number
stored_again zero = refl
stored_again (suc position) = refl
