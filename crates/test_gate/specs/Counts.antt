-- Counts that never decrease.
use Rattle.std.specs.Prelude.{ℕ, ◌≤◌, ◌⊎◌}
use Rattle.std.proofs.Common.{arith, inl, inr}
use Rattle.std.proofs.lemmas.Bool.{cases_lt}

pub same_count : (n : ℕ) → n ≤ n
same_count n = omega (arith)

pub later_count : (a b c : ℕ) → a ≤ b → b ≤ c → a ≤ c
later_count a b c first second = omega (arith, first, second)

pub either_count : (a b c : ℕ) → a ≤ c → b ≤ c → (a ≤ b) ⊎ (b ≤ a)
either_count a b c first second = elim (cases_lt a b) [ inl less ↦ inl (omega (arith, less)) | inr more ↦ inr more ]
