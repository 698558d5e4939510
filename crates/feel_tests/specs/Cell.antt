-- The meaning of a whole text, as a value or as a cell; the contracts of the readers cite it.
use Rattle.std.specs.Prelude.{◌≡◌, ◌≢◌, ℕ, ◌≤◌, ◌⊎◌, List, length}
use Rattle.feel_tests.specs.Limits.{test_limit}
use Rattle.feel_tests.specs.Words.{Sign, Name, IsBlank, Begins}
use Rattle.feel_tests.specs.Grammar.{not_word, IsLiteral, IsList}
use Rattle.feel_tests.specs.declared.symbol.Symbol.TheVariants as symbols
use Rattle.faults.specs.declared.cell_fault.CellCause.TheVariants.{OutOfMemory}
use Rattle.faults.specs.declared.cell_fault.CellFault.{CellFault}
use Rattle.feel_tests.specs.declared.kind.Kind.{Kind}
use Rattle.feel_tests.specs.declared.value.Value.{Value}
use Rattle.feel_tests.specs.declared.cell.Test.{Test}
use Rattle.feel_tests.specs.declared.cell.Cell.{Cell}
use Rattle.feel_tests.specs.declared.cell.Cell.TheVariants.{Dash, OneOf, NoneOf}

-- the whole text is a literal of the kind that denotes the value, with optional white space around
-- it
abbrev pub SpellsValue : Kind → List ℕ → Value → Type 0
SpellsValue kind text value = (rest : List ℕ) × IsLiteral kind text value rest × IsBlank rest

-- the whole text is `not` and a list of tests in parentheses
pub record IsNegation (kind : Kind) (text : List ℕ) (tests : List Test) : Type 0 where
  pub after_word : List ℕ
  pub after_open : List ℕ
  pub after_list : List ℕ
  pub rest : List ℕ
  pub word : Begins text (Name not_word) after_word
  pub opens : Begins after_word (Sign symbols.OpenRound) after_open
  pub list : IsList kind after_open tests after_list
  pub few : length tests ≤ test_limit
  pub closes : Begins after_list (Sign symbols.CloseRound) rest
  pub blank : IsBlank rest

-- the whole text is a cell of the kind: blank or a dash, a list of tests, or `not` and a list
abbrev pub SpellsCell : Kind → List ℕ → Cell → Type 0
SpellsCell kind text Dash = IsBlank text ⊎ ((rest : List ℕ) × Begins text (Sign symbols.Dash) rest × IsBlank rest)
SpellsCell kind text (OneOf tests) = (rest : List ℕ) × IsList kind text tests rest × (length tests ≤ test_limit) × IsBlank rest
SpellsCell kind text (NoneOf tests) = IsNegation kind text tests

-- unless memory ran out, the text denotes no value, or no cell
abbrev pub Refuses : {X : Type 0} → (X → Type 0) → CellFault → Type 0
Refuses {X} P fault = fault.cause ≢ OutOfMemory → (x : X) → ¬ P x

-- a text denotes at most one value of a kind
abbrev pub SpellsOneValue : Type 0
SpellsOneValue = (kind : Kind) (text : List ℕ) (one other : Value) → SpellsValue kind text one → SpellsValue kind text other → one ≡ other

-- a text denotes at most one cell of a kind
abbrev pub SpellsOneCell : Type 0
SpellsOneCell = (kind : Kind) (text : List ℕ) (one other : Cell) → SpellsCell kind text one → SpellsCell kind text other → one ≡ other
