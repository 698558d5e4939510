-- A cell that has one test holds as the test does.
use Rattle.std.proofs.Common.{◌≡◌, ℕ, ◌<◌, ◌≤◌, ◌&&◌, ◌||◌, Bool, true, false, [], ◌∷◌, refl, ap, sym}
use Rattle.std.specs.Prelude.{nat_le}
use Rattle.std.proofs.lemmas.Bool.{le-leb, lt-leb}
use Rattle.feel_tests.specs.Holds.{holds, passes}
use Rattle.feel_tests.specs.declared.cell.Cell.TheVariants.{OneOf}
use Rattle.feel_tests.specs.declared.cell.Test.{Test}
use Rattle.feel_tests.specs.declared.value.Value.{Value}

or_false : (b : Bool) → b ≡ (b || false)
or_false true = refl
or_false false = refl

pub alone : (test : Test) (v : Value) → passes test v ≡ holds (OneOf (test ∷ [])) v
alone test v = or_false (passes test v)

-- what is asked of a number above a limit, or of another one
pub beyond : (k limit : ℕ) (rest : Bool) → limit < k → false ≡ (nat_le k limit && rest)
beyond k limit rest above = sym (ap (λ b. b && rest) (lt-leb k limit above))

pub within : (k limit : ℕ) (rest : Bool) → k ≤ limit → rest ≡ (nat_le k limit && rest)
within k limit rest below = sym (ap (λ b. b && rest) (le-leb k limit below))
