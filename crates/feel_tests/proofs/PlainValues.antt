-- Fields that are not a plain value of their kind.
use Rattle.std.proofs.Common.{◌≡◌, ℕ, ◌<◌, ℤ, true, false, List, length, arith}
use Rattle.std.specs.Prelude.{codes}
use Rattle.fixpoint.specs.NumberText.{Denotes}
use Rattle.feel_tests.specs.Calendar.{IsDateText}
use Rattle.feel_tests.specs.Plain.{SpellsPlain}
use Rattle.feel_tests.specs.declared.kind.Kind.TheVariants as kinds
use Rattle.feel_tests.specs.declared.value.Value.{Value}
use Rattle.feel_tests.specs.declared.value.Value.TheVariants.{Number, Text, Flag, Day}

pub no_number : (text : List ℕ) → ((units : ℤ) → ¬ Denotes text units) → (value : Value) → SpellsPlain kinds.Number text value → ⊥
no_number text none (Number units) h = none units h.1
no_number text none (Text bytes) h = let e = h.0 in cc
no_number text none (Flag flag) h = let e = h.0 in cc
no_number text none (Day day) h = let e = h.0 in cc

pub no_text : (text : List ℕ) → 256 < length text → (value : Value) → SpellsPlain kinds.Text text value → ⊥
no_text text long (Number units) h = let e = h.0 in cc
no_text text long (Text bytes) h = omega (arith, long, h.2)
no_text text long (Flag flag) h = let e = h.0 in cc
no_text text long (Day day) h = let e = h.0 in cc

pub no_flag : (text : List ℕ) → (text ≡ codes "true" → ⊥) → (text ≡ codes "false" → ⊥) → (value : Value) → SpellsPlain kinds.Flag text value → ⊥
no_flag text no_true no_false (Number units) h = let e = h.0 in cc
no_flag text no_true no_false (Text bytes) h = let e = h.0 in cc
no_flag text no_true no_false (Flag true) h = no_true h.1
no_flag text no_true no_false (Flag false) h = no_false h.1
no_flag text no_true no_false (Day day) h = let e = h.0 in cc

pub no_day : (text : List ℕ) → ((day : ℤ) → ¬ IsDateText text day) → (value : Value) → SpellsPlain kinds.Day text value → ⊥
no_day text none (Number units) h = let e = h.0 in cc
no_day text none (Text bytes) h = let e = h.0 in cc
no_day text none (Flag flag) h = let e = h.0 in cc
no_day text none (Day day) h = none day h.1
