use Rattle.std.proofs.Common.{sym, arith}
use Rattle.std.specs.Char.{is_ascii_digit}
use Rattle.std.proofs.lemmas.List.Sums.{prefix_len-drop_yes, prefix_len-drop_no, prefix_len-drop_all}
use Rattle.feel_tests.proofs.word.digits_len.Goals as goal

pub loop-len-preserved : goal.loop-len-preserved
loop-len-preserved c =
    let next = prefix_len-drop_yes is_ascii_digit c.args.bytes.now c.loop-len.len 0 c.loop-len-test.true (sym c.if-is_ascii_digit.ensures.value) in
    (omega arith, omega arith)

pub returns-else-is_ascii_digit-clause-value : goal.returns-else-is_ascii_digit-clause-value
returns-else-is_ascii_digit-clause-value c =
    let none = prefix_len-drop_no is_ascii_digit c.args.bytes.now c.loop-len.len 0 c.loop-len-test.true (sym c.if-is_ascii_digit.ensures.value) in
    omega arith

pub returns-after-loop-len-clause-value : goal.returns-after-loop-len-clause-value
returns-after-loop-len-clause-value c =
    let none = prefix_len-drop_all is_ascii_digit c.args.bytes.now c.loop-len.len c.loop-len-test.false in
    omega arith
