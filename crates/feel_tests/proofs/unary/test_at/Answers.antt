use Rattle.std.proofs.Common.{arith}
use Rattle.std.proofs.lemmas.Grind.{common_steps}
use Rattle.std.proofs.lemmas.Result.{err_from_is_err_and}
use Rattle.feel_tests.proofs.Denials.{plain_denied}
use Rattle.feel_tests.proofs.unary.test_at.Goals as goal

pub returns-in_err-value-in-None-clause-refused : goal.returns-in_err-value-in-None-clause-refused
returns-in_err-value-in-None-clause-refused c =
    let p = err_from_is_err_and c.from_residual.result c.from_residual.ensures.1 in
    rw (p.1, p.2) (plain_denied c.args.kind c.args.text.now c.in_err-value-in-None.field-0.0 c.in-None.ensures.none c.in_err-value-in-None.ensures.refused)

pub returns-in_ok-value-in-None-clause-ok : goal.returns-in_ok-value-in-None-clause-ok
returns-in_ok-value-in-None-clause-ok c = grind (arith, common_steps)
