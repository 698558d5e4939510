use Rattle.std.proofs.lemmas.Grind.{common_steps}
use Rattle.std.proofs.Common.{◌≡◌, ◌≢◌, ◌<◌, ◌-◌, length, take, drop, subst, sym, ap, ◌∙◌, rules, tests, arith}
use Rattle.std.proofs.lemmas.Bool.{eqb-true}
use Rattle.std.proofs.lemmas.List.{take_rest}
use Rattle.fixpoint.specs.Reading.{BeginsWithDigits}
use Rattle.fixpoint.proofs.Spelling.{IsNoDotText-from_first, IsNoDotText-from_empty, IsNoDotText-from_rest}
use Rattle.fixpoint.proofs.reading.fraction_digits.Goals as goal
use Rattle.fixpoint.proofs.reading.fraction_digits.Goals.{else-text-eq46-via-then-text-eq46+then-not-is_empty+else-leading_digits-fraction, else-text-eq46-via-then-text-eq46+else-not-is_empty, else-text-eq46-via-else-text-eq46}

pub returns-else-text-eq46 : goal.returns-else-text-eq46
returns-else-text-eq46 c =
    let bytes = c.args.text.now in
    let some : 0 < length bytes = search (rules, tests) in
    let rest : take (length bytes - 1) (drop 1 bytes) ≡ drop 1 bytes = take_rest bytes 1 in
    elim c.else-text-eq46.branch [
      | else-text-eq46-via-then-text-eq46+then-not-is_empty+else-leading_digits-fraction w ↦
          IsNoDotText-from_rest bytes w.leading_digits.result some
          (subst (λ l. BeginsWithDigits l w.leading_digits.result) rest w.leading_digits.ensures)
          (subst (λ l. w.leading_digits.result ≢ length l) rest w.if-leading_digits-fraction.false)
      | else-text-eq46-via-then-text-eq46+else-not-is_empty w ↦
          IsNoDotText-from_empty bytes some (ap length (sym rest) ∙ eqb-true _ _ (sym w.if-not-is_empty.ensures))
      | else-text-eq46-via-else-text-eq46 w ↦ IsNoDotText-from_first bytes some w.if-text-eq46.false
    ]

pub returns-then-leading_digits-fraction : goal.returns-then-leading_digits-fraction
returns-then-leading_digits-fraction c = grind (arith, common_steps)

pub returns-then-is_empty : goal.returns-then-is_empty
returns-then-is_empty c = grind (arith, common_steps)

pub bounds-text-0 : goal.bounds-text-0
bounds-text-0 c = grind (arith, common_steps)
