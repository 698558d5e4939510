use Rattle.std.proofs.lemmas.Result.{on_ok_weaker}
use Rattle.explanation.proofs.Appending.{ten}
use Rattle.explanation.proofs.settlement_steps.add_paid.Goals as goal

pub returns : goal.returns
returns c =
    on_ok_weaker c.add_money-6.result
    (λ last. ten c.args.facts.now c.add_money.new.self c.add_left.new.facts c.add_left-2.new.facts c.add_money-2.new.self c.add_money-3.new.self c.add_money-4.new.self c.add_left-3.new.facts
    c.add_left-4.new.facts c.add_money-5.new.self c.add_money-6.new.self _ _ _ _ _ _ _ _ _ _ c.in_ok-add_money.ensures c.in_ok-add_left.ensures
    (rw c.family_deductible-deductible.ensures at c.in_ok-add_left-2.ensures) c.in_ok-add_money-2.ensures c.in_ok-add_money-3.ensures c.in_ok-add_money-4.ensures c.in_ok-add_left-3.ensures
    (rw c.family_maximum-maximum.ensures at c.in_ok-add_left-4.ensures) c.in_ok-add_money-5.ensures last)
    c.add_money-6.ensures
