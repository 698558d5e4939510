use Rattle.std.proofs.lemmas.Grind.{common_steps}
use Rattle.std.proofs.Common.{refl, arith}
use Rattle.std.proofs.lemmas.Result.{err_from_is_err_and}
use Rattle.feel_tests.proofs.Denials.{comparison_denied}
use Rattle.feel_tests.proofs.unary.comparison_at.Goals as goal

pub returns-in_err-value-clause-refused : goal.returns-in_err-value-clause-refused
returns-in_err-value-clause-refused c =
    let p = err_from_is_err_and c.from_residual.result c.from_residual.ensures.1 in
    rw (p.1, p.2) (comparison_denied c.args.kind c.args.text.now c.args.op c.args.literal.now c.in_err-value.field-0.0 c.requires c.in_err-value.ensures.refused)

pub returns-clause-ok : goal.returns-clause-ok
returns-clause-ok c = record {
  ordered = c.if-not-has_order.ensures.0 refl;
  literal = c.args.literal.now;
  operator = c.requires;
  has_literal = c.in_ok-value.ensures.ok;
}

pub returns-then-not-has_order-clause-refused : goal.returns-then-not-has_order-clause-refused
returns-then-not-has_order-clause-refused c = grind (arith, common_steps)
