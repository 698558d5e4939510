use Rattle.std.proofs.lemmas.Grind.{common_steps}
use Rattle.std.proofs.lemmas.Result.{err_from_is_err_and}
use Rattle.std.proofs.Common.{arith}
use Rattle.std.proofs.lemmas.List.{length_push}
use Rattle.feel_tests.proofs.OneCell.{list_no_test, list_no_more, list_more, list_too_long}
use Rattle.feel_tests.proofs.reading.list_at.Goals as goal

pub returns-in_err-first-clause-refused : goal.returns-in_err-first-clause-refused
returns-in_err-first-clause-refused c =
    let p = err_from_is_err_and c.from_residual.result c.from_residual.ensures.1 in
    rw (p.1, p.2) (list_no_test c.args.kind c.args.text.now c.in_err-first.field-0.0 c.in_err-first.ensures.refused)

pub returns-in_err-test-clause-refused : goal.returns-in_err-test-clause-refused
returns-in_err-test-clause-refused c =
    let p = err_from_is_err_and c.from_residual-in_err-test.result c.from_residual-in_err-test.ensures.1 in
    rw (p.1, p.2) (list_no_more c.args.kind c.args.text.now c.loop-count.tests c.loop-count.rest.now c.in-Some.after_comma.now c.in_err-test.field-0.0 c.loop-count.invariant.1 c.in-Some.ensures.some c.in_err-test.ensures.refused)

pub returns-in-Some-after_symbol-clause-refused : goal.returns-in-Some-after_symbol-clause-refused
returns-in-Some-after_symbol-clause-refused c memory =
    list_too_long c.args.kind c.args.text.now c.loop-count.tests c.loop-count.rest.now c.in-Some-after_symbol.after_comma.now c.loop-count.invariant.1 c.in-Some-after_symbol.ensures.some (omega arith)

pub loop-count-preserved : goal.loop-count-preserved
loop-count-preserved c =
    let count = c.loop-count.invariant.0 in
    rw c.in_ok-push.ensures.ok
    (omega (arith, count, length_push c.loop-count.tests c.in_ok-test.test), list_more c.args.kind c.args.text.now c.loop-count.tests c.loop-count.rest.now c.in-Some.after_comma.now c.in_ok-test.test c.in_ok-test.after_test.now c.loop-count.invariant.1 c.in-Some.ensures.some c.in_ok-test.ensures.ok)

pub returns-in_err-push-clause-refused : goal.returns-in_err-push-clause-refused
returns-in_err-push-clause-refused c = grind (arith, common_steps)

pub returns-clause-ok : goal.returns-clause-ok
returns-clause-ok c = grind (arith, common_steps)

pub returns-in_default-clause-ok : goal.returns-in_default-clause-ok
returns-in_default-clause-ok c = grind (arith, common_steps)

pub loop-count-init : goal.loop-count-init
loop-count-init c = grind (arith, common_steps)
