-- Results of the private readers: what a fault implies, and the parts of an interval.
use Rattle.std.specs.Prelude.{◌≡◌, ◌≢◌, ℕ, ◌≤◌, Bool, List, ◌∷◌, Some, length}
use Rattle.feel_tests.specs.Words.{skip_white, Sign, Begins}
use Rattle.feel_tests.specs.Grammar.{start_in, end_in, IsSpan, IsList}
use Rattle.feel_tests.specs.declared.kind.Kind.{Kind}
use Rattle.feel_tests.specs.Limits.{test_limit}
use Rattle.feel_tests.specs.declared.symbol.Symbol.TheVariants as symbols
use Rattle.feel_tests.specs.declared.cell.Test.{Test}
use Rattle.feel_tests.specs.declared.cell.Test.TheVariants.{Equal, Compare, Between}
use Rattle.feel_tests.specs.declared.symbol.Symbol.{Symbol}
use Rattle.faults.specs.declared.cell_fault.CellCause.TheVariants.{OutOfMemory}
use Rattle.feel_tests.specs.declared.refusal.Refusal.{Refusal}

-- unless memory ran out, nothing has the property
abbrev pub Denies : {X : Type 0} → (X → Type 0) → Refusal → Type 0
Denies {X} P refusal = refusal.cause ≢ OutOfMemory → (x : X) → ¬ P x

-- unless memory ran out, nothing has the property with any rest of the text
abbrev pub DeniesPart : {X : Type 0} → (X → List ℕ → Type 0) → Refusal → Type 0
DeniesPart {X} P refusal = refusal.cause ≢ OutOfMemory → (x : X) (rest : List ℕ) → ¬ P x rest

-- the text begins with a bracket that opens an interval, and the flag says whether the low end
-- belongs to it
abbrev pub IsStart : List ℕ → Bool → List ℕ → Type 0
IsStart text low_in rest = (bracket : Symbol) × Begins text (Sign bracket) rest × (start_in bracket ≡ Some low_in)

-- the text begins with a bracket that closes an interval, and the flag says whether the high end
-- belongs to it
abbrev pub IsEnd : List ℕ → Bool → List ℕ → Type 0
IsEnd text high_in rest = (bracket : Symbol) × Begins text (Sign bracket) rest × (end_in bracket ≡ Some high_in)

-- the text begins with the span of an interval, and the flag says whether the low end belongs to it
abbrev pub IsSpanTest : Kind → Bool → List ℕ → Test → List ℕ → Type 0
IsSpanTest kind low_in text (Equal value) rest = ⊥
IsSpanTest kind low_in text (Compare op value) rest = ⊥
IsSpanTest kind low_in text (Between low in_low high high_in) rest = (in_low ≡ low_in) × IsSpan kind text low high high_in rest

-- the text begins with a list within the limit, and no comma follows the list
abbrev pub IsWholeList : Kind → List ℕ → List Test → List ℕ → Type 0
IsWholeList kind text tests rest = IsList kind text tests rest × (length tests ≤ test_limit) × ((after : List ℕ) → ¬ Begins rest (Sign symbols.Comma) after)

-- the text begins with a quote after optional white space
abbrev pub IsQuoteFirst : List ℕ → Type 0
IsQuoteFirst text = (inside : List ℕ) × (skip_white text ≡ 34 ∷ inside)
