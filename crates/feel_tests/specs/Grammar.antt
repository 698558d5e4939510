-- The grammar of cells over words (DMN 1.4, S-FEEL, unary tests): which texts begin with a literal,
-- a test or a list of tests, and which rest follows.
use Rattle.std.specs.Prelude.{◌≡◌, ℕ, ℤ, Bool, true, false, List, [], ◌∷◌, Option, Some, None, codes}
use Rattle.fixpoint.specs.NumberText.{Denotes}
use Rattle.feel_tests.specs.TextBytes.{IsText}
use Rattle.feel_tests.specs.Calendar.{IsDateText}
use Rattle.feel_tests.specs.Value.{flag_text}
use Rattle.feel_tests.specs.Words.{Sign, Digits, Quoted, Name, Begins}
use Rattle.feel_tests.specs.declared.symbol.Symbol.{Symbol}
use Rattle.feel_tests.specs.declared.symbol.Symbol.TheVariants as symbols
use Rattle.feel_tests.specs.declared.kind.Kind.{Kind}
use Rattle.feel_tests.specs.declared.kind.Kind.TheVariants as kinds
use Rattle.feel_tests.specs.declared.value.Value.{Value}
use Rattle.feel_tests.specs.declared.value.Value.TheVariants.{Number, Text, Flag, Day}
use Rattle.feel_tests.specs.declared.cell.Op.{Op}
use Rattle.feel_tests.specs.declared.cell.Op.TheVariants.{Less, AtMost, More, AtLeast}
use Rattle.feel_tests.specs.declared.cell.Test.{Test}
use Rattle.feel_tests.specs.declared.cell.Test.TheVariants.{Equal, Compare, Between}

-- the name that begins a date
abbrev pub date_word : List ℕ
date_word = codes "date"

-- the name that begins a negated list
abbrev pub not_word : List ℕ
not_word = codes "not"

-- values of the kind are ordered: numbers and days
abbrev pub HasOrder : Kind → Type 0
HasOrder kinds.Number = Unit {0}
HasOrder kinds.Text = ⊥
HasOrder kinds.Flag = ⊥
HasOrder kinds.Day = Unit {0}

-- the symbol of a comparison
abbrev pub op_symbol : Op → Symbol
op_symbol Less = symbols.Less
op_symbol AtMost = symbols.AtMost
op_symbol More = symbols.More
op_symbol AtLeast = symbols.AtLeast

-- the brackets that open an interval, with whether the low end belongs to it
abbrev pub start_in : Symbol → Option Bool
start_in symbols.OpenSquare = Some true
start_in symbols.OpenRound = Some false
start_in symbols.CloseSquare = Some false
start_in _ = None

-- the brackets that close an interval, with whether the high end belongs to it
abbrev pub end_in : Symbol → Option Bool
end_in symbols.CloseSquare = Some true
end_in symbols.CloseRound = Some false
end_in symbols.OpenSquare = Some false
end_in _ = None

-- the text begins with `date` and a date as a string in parentheses
pub record IsDate (text : List ℕ) (day : ℤ) (rest : List ℕ) : Type 0 where
  pub after_word : List ℕ
  pub after_open : List ℕ
  pub after_string : List ℕ
  pub date : List ℕ
  pub word : Begins text (Name date_word) after_word
  pub opens : Begins after_word (Sign symbols.OpenRound) after_open
  pub string : Begins after_open (Quoted date) after_string
  pub closes : Begins after_string (Sign symbols.CloseRound) rest
  pub is_date : IsDateText date day

-- the text begins with a literal of the kind that denotes the value
abbrev pub IsLiteral : Kind → List ℕ → Value → List ℕ → Type 0
IsLiteral kind text (Number units) rest = (kind ≡ kinds.Number) × (digits : List ℕ) × Begins text (Digits digits) rest × Denotes digits units
IsLiteral kind text (Text bytes) rest = (kind ≡ kinds.Text) × Begins text (Quoted bytes) rest × IsText bytes
IsLiteral kind text (Flag flag) rest = (kind ≡ kinds.Flag) × Begins text (Name (flag_text flag)) rest
IsLiteral kind text (Day day) rest = (kind ≡ kinds.Day) × IsDate text day rest

-- the text begins with a literal, `..`, a literal and a closing bracket, which says whether the
-- high end belongs to the interval
pub record IsSpan (kind : Kind) (text : List ℕ) (low : Value) (high : Value) (high_in : Bool) (rest : List ℕ) : Type 0 where
  pub after_low : List ℕ
  pub after_dots : List ℕ
  pub after_high : List ℕ
  pub bracket : Symbol
  pub has_low : IsLiteral kind text low after_low
  pub dots : Begins after_low (Sign symbols.Dots) after_dots
  pub has_high : IsLiteral kind after_dots high after_high
  pub closes : Begins after_high (Sign bracket) rest
  pub end_is : end_in bracket ≡ Some high_in

-- the text begins with an operator and a literal of an ordered kind
pub record IsComparison (kind : Kind) (text : List ℕ) (op : Op) (value : Value) (rest : List ℕ) : Type 0 where
  pub ordered : HasOrder kind
  pub literal : List ℕ
  pub operator : Begins text (Sign (op_symbol op)) literal
  pub has_literal : IsLiteral kind literal value rest

-- the text begins with an interval of an ordered kind: an opening bracket, and the span after it
pub record IsInterval (kind : Kind) (text : List ℕ) (low : Value) (low_in : Bool) (high : Value) (high_in : Bool) (rest : List ℕ) : Type 0 where
  pub ordered : HasOrder kind
  pub bracket : Symbol
  pub span : List ℕ
  pub opens : Begins text (Sign bracket) span
  pub start_is : start_in bracket ≡ Some low_in
  pub has_span : IsSpan kind span low high high_in rest

-- the text begins with this test
abbrev pub IsTest : Kind → List ℕ → Test → List ℕ → Type 0
IsTest kind text (Equal value) rest = IsLiteral kind text value rest
IsTest kind text (Compare op value) rest = IsComparison kind text op value rest
IsTest kind text (Between low low_in high high_in) rest = IsInterval kind text low low_in high high_in rest

-- the text begins with this list of tests, separated by commas
abbrev pub IsList : Kind → List ℕ → List Test → List ℕ → Type 0
IsList kind text [] rest = ⊥
IsList kind text (test ∷ []) rest = IsTest kind text test rest
IsList kind text (test ∷ next ∷ more) rest = (after_test : List ℕ) × (after_comma : List ℕ) × IsTest kind text test after_test × Begins after_test (Sign symbols.Comma) after_comma × IsList kind after_comma (next ∷ more) rest
