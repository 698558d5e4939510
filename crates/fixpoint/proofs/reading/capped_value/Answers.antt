use Rattle.std.proofs.lemmas.Grind.{common_steps}
use Rattle.std.proofs.Common.{get_or, arith}
use Rattle.std.proofs.lemmas.Int.Digits.{digits_value_more}
use Rattle.std.proofs.lemmas.Str.Parse.{digit_at}
use Rattle.fixpoint.proofs.Digits.{value_of_digit}
use Rattle.fixpoint.proofs.reading.capped_value.Goals as goal

pub overflow_sub-digit : goal.overflow_sub-digit
overflow_sub-digit c = (digit_at c.args.digits.now c.loop-digit.digit-index c.requires c.loop-digit-test.true).0

pub loop-digit-preserved : goal.loop-digit-preserved
loop-digit-preserved c =
    let more = digits_value_more 10 c.args.digits.now c.loop-digit.digit-index c.loop-digit-test.true in
    let digit = digit_at c.args.digits.now c.loop-digit.digit-index c.requires c.loop-digit-test.true in
    let value = value_of_digit (get_or c.args.digits.now c.loop-digit.digit-index 0) digit.0 digit.1 in
    omega (arith, more, value, c.min-value.ensures, c.from.ensures)

pub returns : goal.returns
returns c = grind (arith, common_steps)
