use Rattle.std.proofs.Common.{◌+◌, ◌<◌, length, subst, sym, rules, tests}
use Rattle.fixpoint.specs.Reading.{HasParts, IsDotTextOf, IsNoDotText}
use Rattle.fixpoint.proofs.Spelling.{no_text-from_rest, HasParts-from_front}
use Rattle.fixpoint.proofs.reading.parts.Goals as goal
use Rattle.fixpoint.proofs.reading.parts.Goals.{else-is_empty-via-then-is_empty+else-is_empty-2, else-is_empty-via-else-is_empty}

pub returns-in_err-fraction : goal.returns-in_err-fraction
returns-in_err-fraction c =
    rw c.from_residual.ensures
    (no_text-from_rest c.args.text.now c.without_sign-negative.result.0 c.without_sign-negative.result.1.now c.leading_digits.result
    c.without_sign-negative.ensures.joined c.without_sign-negative.ensures.signed c.leading_digits.ensures
    (subst IsNoDotText c.split_at.ensures.back c.in_err-fraction.ensures))

pub returns : goal.returns
returns c =
    let digits = c.without_sign-negative.result.1.now in
    let n = c.leading_digits.result in
    let front = c.split_at.ensures.front in
    let fraction = c.in_ok-fraction.fraction.now in
    let some : 0 < length c.split_at.result.0.now + length fraction = elim c.else-is_empty.branch [
      | else-is_empty-via-then-is_empty+else-is_empty-2 w ↦ search (rules, tests)
      | else-is_empty-via-else-is_empty w ↦ search (rules, tests)
    ] in
    subst (λ l. HasParts c.args.text.now c.without_sign-negative.result.0 l fraction) (sym front)
    (HasParts-from_front c.args.text.now c.without_sign-negative.result.0 digits n c.without_sign-negative.ensures.joined c.leading_digits.ensures
    fraction (subst (λ l. IsDotTextOf l fraction) c.split_at.ensures.back c.in_ok-fraction.ensures) (subst (λ l. 0 < length l + length fraction) front some))
