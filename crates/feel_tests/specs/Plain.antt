-- Plain values: the meaning of a whole field of a CSV record.
use Rattle.std.specs.Prelude.{◌≡◌, ◌≢◌, ℕ, List}
use Rattle.fixpoint.specs.NumberText.{Denotes}
use Rattle.feel_tests.specs.TextBytes.{IsShort}
use Rattle.feel_tests.specs.Calendar.{IsDateText}
use Rattle.feel_tests.specs.Value.{flag_text}
use Rattle.feel_tests.specs.declared.kind.Kind.{Kind}
use Rattle.feel_tests.specs.declared.kind.Kind.TheVariants as kinds
use Rattle.feel_tests.specs.declared.value.Value.{Value}
use Rattle.feel_tests.specs.declared.value.Value.TheVariants.{Number, Text, Flag, Day}
use Rattle.feel_tests.specs.declared.plain.PlainFault.{PlainFault}
use Rattle.feel_tests.specs.declared.plain.PlainFault.TheVariants.{Bad, OutOfMemory}

-- the whole field is a number text, a text within the limit, `true` or `false`, or a date
abbrev pub SpellsPlain : Kind → List ℕ → Value → Type 0
SpellsPlain kind text (Number units) = (kind ≡ kinds.Number) × Denotes text units
SpellsPlain kind text (Text bytes) = (kind ≡ kinds.Text) × (bytes ≡ text) × IsShort text
SpellsPlain kind text (Flag flag) = (kind ≡ kinds.Flag) × (text ≡ flag_text flag)
SpellsPlain kind text (Day day) = (kind ≡ kinds.Day) × IsDateText text day

-- a field denotes at most one plain value of a kind
abbrev pub SpellsOnePlain : Type 0
SpellsOnePlain = (kind : Kind) (text : List ℕ) (one other : Value) → SpellsPlain kind text one → SpellsPlain kind text other → one ≡ other

-- unless memory ran out, the field denotes no value
abbrev pub RefusesPlain : (Value → Type 0) → PlainFault → Type 0
RefusesPlain P fault = fault ≢ OutOfMemory → (value : Value) → ¬ P value

-- the number that messages print for the fault
abbrev pub plain_number_of : PlainFault → ℕ
plain_number_of Bad = 1
plain_number_of OutOfMemory = 2
