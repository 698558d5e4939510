use Rattle.std.proofs.Common.{arith}
use Rattle.std.proofs.lemmas.Grind.{common_steps}
use Rattle.std.proofs.lemmas.Result.{err_from_is_err_and}
use Rattle.std.proofs.lemmas.Bool.{iff_false}
use Rattle.feel_tests.proofs.OneCell.{dash_trailing, list_denied, list_trailing}
use Rattle.feel_tests.proofs.reading.cell_of.Goals as goal

pub returns-in_err-blank_end-clause-refused : goal.returns-in_err-blank_end-clause-refused
returns-in_err-blank_end-clause-refused c =
    let p = err_from_is_err_and c.from_residual.result c.from_residual.ensures.1 in
    rw (p.1, p.2) (dash_trailing c.args.kind c.args.text.now c.in-Some.rest.now c.in_err-blank_end.field-0.0 (iff_false c.is_blank.ensures c.if-is_blank.false) c.in-Some.ensures.some c.in_err-blank_end.ensures.refused)

pub returns-in_err-tests-clause-refused : goal.returns-in_err-tests-clause-refused
returns-in_err-tests-clause-refused c =
    let p = err_from_is_err_and c.from_residual-in_err-tests.result c.from_residual-in_err-tests.ensures.1 in
    rw (p.1, p.2) (list_denied c.args.kind c.args.text.now c.in_err-tests.field-0.0 (iff_false c.is_blank.ensures c.if-is_blank.false) c.in_default.ensures.none c.in_default-after_not.ensures.none c.in_err-tests.ensures.refused)

pub returns-in_err-blank_end-2-clause-refused : goal.returns-in_err-blank_end-2-clause-refused
returns-in_err-blank_end-2-clause-refused c =
    let p = err_from_is_err_and c.from_residual-in_err-blank_end-2.result c.from_residual-in_err-blank_end-2.ensures.1 in
    rw (p.1, p.2) (list_trailing c.args.kind c.args.text.now c.in_ok-tests.tests c.in_ok-tests.rest.now c.in_err-blank_end-2.field-0.0 (iff_false c.is_blank.ensures c.if-is_blank.false) c.in_default.ensures.none c.in_default-after_not.ensures.none c.in_ok-tests.ensures.ok c.in_err-blank_end-2.ensures.refused)

pub returns-clause-ok : goal.returns-clause-ok
returns-clause-ok c = (c.in_ok-tests.rest.now, c.in_ok-tests.ensures.ok.0, c.in_ok-tests.ensures.ok.1, c.in_ok-blank_end-2.ensures.ok)

pub returns-in-Some-clause-ok : goal.returns-in-Some-clause-ok
returns-in-Some-clause-ok c = grind (arith, common_steps)

pub returns-then-is_blank-clause-ok : goal.returns-then-is_blank-clause-ok
returns-then-is_blank-clause-ok c = grind (arith, common_steps)
