-- A whole field denotes at most one value of a kind.
use Rattle.std.proofs.Common.{◌≡◌, ℕ, Bool, true, false, List, length, refl, sym, ap, ◌∙◌, arith}
use Rattle.fixpoint.specs.NumberText.{DenotesAtMostOne}
use Rattle.feel_tests.specs.Plain.{SpellsPlain}
use Rattle.feel_tests.specs.Value.{flag_text}
use Rattle.feel_tests.specs.declared.kind.Kind.{Kind}
use Rattle.feel_tests.specs.declared.value.Value.{Value}
use Rattle.feel_tests.specs.declared.value.Value.TheVariants.{Number, Text, Flag, Day}
use Rattle.feel_tests.proofs.OneDate.{date_one}

flag_one : (a b : Bool) → flag_text a ≡ flag_text b → a ≡ b
flag_one true true e = refl
flag_one false false e = refl
flag_one true false e = let sizes = ap length e in absurd (omega (arith, sizes))
flag_one false true e = let sizes = ap length e in absurd (omega (arith, sizes))

pub plain_one : DenotesAtMostOne → (kind : Kind) (text : List ℕ) (one other : Value) → SpellsPlain kind text one → SpellsPlain kind text other → one ≡ other
plain_one once kind text (Number u) (Number w) h k = ap Number (once text u w h.1 k.1)
plain_one once kind text (Text t) (Text s) h k = ap Text (h.1 ∙ sym k.1)
plain_one once kind text (Flag a) (Flag b) h k = ap Flag (flag_one a b (sym h.1 ∙ k.1))
plain_one once kind text (Day d) (Day e) h k = ap Day (date_one text d e h.1 k.1)
plain_one once kind text _ _ h k = absurd (cc (sym h.0 ∙ k.0))
