-- The arguments `NAME=LITERAL` of the command `value`, and the values that they give.
use Rattle.std.specs.Prelude.{◌≡◌, ℕ, ◌<◌, ◌++◌, ◌==◌, cond, List, [], ◌∷◌, map, Option, Some, None, option_map, Contains, slice_get, IsTrue, IsSome}
use Rattle.std.specs.Borrow.{Bor}
use Rattle.feel_tests.specs.declared.value.Value.{Value}
use Rattle.feel_tests.specs.Cell.{SpellsValue}
use Rattle.feel_tests.specs.Value.{kind_of}
use Rattle.tables.specs.declared.inputs.Slot.{Slot}
use Rattle.tables.specs.declared.table.InputData.{InputData}
use Rattle.tables.specs.declared.table.Table.{Table}
use Rattle.tables.specs.Inputs.{needs, value_at, kind_at}

-- the texts that references to arguments point to
abbrev pub argument_texts : List (Bor (List ℕ)) → List (List ℕ)
argument_texts arguments = map (λ a. a.now) arguments

-- the byte `=`
abbrev pub equals_sign : ℕ
equals_sign = 61

-- the name before an argument's first `=`, and the literal after it
pub record IsSplit (text name literal : List ℕ) : Type 0 where
  pub joined : text ≡ name ++ (equals_sign ∷ literal)
  pub first : ¬ Contains name equals_sign

-- the argument has the name of the input data at an index, and then this literal
pub record NamesData (names : List InputData) (text : List ℕ) (place : ℕ) (input : InputData) (literal : List ℕ) : Type 0 where
  pub split : IsSplit text input.name literal
  pub present : slice_get names place ≡ Some input

-- the index of a name, and the value that an argument gives to it
pub record Assignment : Type 0 where
  pub place : ℕ
  pub value : Value

-- an argument: the name at the index, `=`, and a literal of the name's kind that denotes the value
pub record IsArgument (names : List InputData) (text : List ℕ) (assignment : Assignment) : Type 0 where
  pub input : InputData
  pub literal : List ℕ
  pub named : NamesData names text assignment.place input literal
  pub spelled : SpellsValue input.kind literal assignment.value
  pub of_kind : kind_of assignment.value ≡ input.kind

-- each argument makes the assignment at the same index, and the two lists have equal lengths
abbrev pub EachArgument : List InputData → List (List ℕ) → List Assignment → Type 0
EachArgument names [] [] = Unit {0}
EachArgument names (argument ∷ arguments) (a ∷ more) = IsArgument names argument a × EachArgument names arguments more
EachArgument names _ _ = ⊥

-- the value that is assigned to an index
abbrev pub assigned : List Assignment → ℕ → Option Value
assigned [] place = None
assigned (a ∷ more) place = cond (a.place == place) (Some a.value) (assigned more place)

-- no index is assigned twice
abbrev pub AreApart : List Assignment → Type 0
AreApart [] = Unit {0}
AreApart (a ∷ more) = (assigned more a.place ≡ None) × AreApart more

-- the arguments give these values, at most one to each name: there is a slot for each name, with its kind and the assigned value
pub record Gives (names : List InputData) (arguments : List (List ℕ)) (given : List Slot) : Type 0 where
  pub assignments : List Assignment
  pub each : EachArgument names arguments assignments
  pub once : AreApart assignments
  pub kinds : (place : ℕ) → kind_at given place ≡ option_map (λ d. d.kind) (slice_get names place)
  pub found : (place : ℕ) → value_at given place ≡ assigned assignments place

-- each name before an index that a table reads has a value
abbrev pub IsReadyBelow : ℕ → List Table → List Slot → Type 0
IsReadyBelow end tables given = (place : ℕ) → place < end → IsTrue (needs tables place) → IsSome (value_at given place)

-- the name is the first that a table reads and that has no value
pub record IsFirstMissing (names : List InputData) (tables : List Table) (given : List Slot) (name : List ℕ) : Type 0 where
  pub place : ℕ
  pub input : InputData
  pub present : slice_get names place ≡ Some input
  pub named : input.name ≡ name
  pub read : IsTrue (needs tables place)
  pub missing : value_at given place ≡ None
  pub first : IsReadyBelow place tables given
