use Rattle.std.proofs.Common.{◌++◌, ap, sym, ◌∙◌}
use Rattle.std.proofs.lemmas.Result.{on_ok_weaker}
use Rattle.explanation.proofs.Limits.{left_added}
use Rattle.explanation.proofs.settlement_steps.add_left.Goals as goal

pub returns-in-Some-money_of : goal.returns-in-Some-money_of
returns-in-Some-money_of c =
    rw c.in-Some.is
    (on_ok_weaker c.add_money.result
    (λ added. added ∙ ap (λ facts. c.args.facts.now ++ facts) (left_added c.args.given.now c.args.env.now c.args.name.now c.in-Some.source.now c.args.used _ _ _ c.value_of.ensures
    (sym c.in-Some-money_of.is ∙ c.money_of.ensures) c.remaining.ensures))
    c.add_money.ensures)
