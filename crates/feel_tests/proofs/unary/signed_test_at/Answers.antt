use Rattle.std.proofs.lemmas.Grind.{common_steps}
use Rattle.std.proofs.Common.{refl, sym, ◌∙◌, arith}
use Rattle.std.proofs.lemmas.Result.{IfErr-weaker, IfOk-weaker}
use Rattle.feel_tests.specs.Parts.{IsStart}
use Rattle.feel_tests.proofs.Denials.{interval_denied, interval_read, sign_denied}
use Rattle.feel_tests.proofs.unary.signed_test_at.Goals as goal

pub comparison_at-requires : goal.comparison_at-requires
comparison_at-requires c = grind (arith, common_steps)

pub returns-in_default-start_in-clause-refused : goal.returns-in_default-start_in-clause-refused
returns-in_default-start_in-clause-refused c memory =
    sign_denied c.args.kind c.args.text.now c.args.symbol c.args.rest.now c.requires (sym c.op.ensures ∙ c.in_default.is) (sym c.start_in.ensures ∙ c.in_default-start_in.is)

pub returns-then-not-has_order-clause-refused : goal.returns-then-not-has_order-clause-refused
returns-then-not-has_order-clause-refused c = grind (arith, common_steps)

pub returns-clause-refused : goal.returns-clause-refused
returns-clause-refused c =
    let start : IsStart c.args.text.now c.in-Some-start_in.low_in c.args.rest.now = (c.args.symbol, c.requires, sym c.start_in.ensures ∙ c.in-Some-start_in.is) in
    IfErr-weaker c.span_at.result _ _ (λ f d. interval_denied c.args.kind c.args.text.now c.in-Some-start_in.low_in c.args.rest.now f start d) c.span_at.ensures.refused

pub returns-clause-ok : goal.returns-clause-ok
returns-clause-ok c =
    let start : IsStart c.args.text.now c.in-Some-start_in.low_in c.args.rest.now = (c.args.symbol, c.requires, sym c.start_in.ensures ∙ c.in-Some-start_in.is) in
    IfOk-weaker c.span_at.result _ _ (λ found s. interval_read c.args.kind c.args.text.now c.in-Some-start_in.low_in c.args.rest.now found.0 found.1.now (c.if-not-has_order.ensures.0 refl) start s) c.span_at.ensures.ok
