use Rattle.std.proofs.Common.{◌≡◌, true, false, is_none, rules}
use Rattle.std.proofs.lemmas.Result.{on_ok_weaker}
use Rattle.explanation.proofs.Accumulators.{all_added, own_added}
use Rattle.explanation.proofs.settlement_steps.add_accumulators.Goals as goal

pub returns-then-is_none : goal.returns-then-is_none
returns-then-is_none c =
    let none : is_none c.args.claim.now.family ≡ true = search rules in
    own_added c.args.step.now c.args.acc.now c.args.facts.now c.add_money.new.self c.add_money-2.new.self c.add_money-3.new.self c.in_ok-add_money.ensures c.in_ok-add_money-2.ensures
    c.in_ok-add_money-3.ensures c.args.claim.now.family none

pub returns : goal.returns
returns c =
    let some : is_none c.args.claim.now.family ≡ false = search rules in
    on_ok_weaker c.add_money-5.result
    (λ last. all_added c.args.step.now c.args.acc.now c.args.facts.now c.add_money.new.self c.add_money-2.new.self c.add_money-3.new.self c.in_ok-add_money.ensures
    c.in_ok-add_money-2.ensures c.in_ok-add_money-3.ensures c.args.claim.now.family c.add_money-4.new.self c.add_money-5.new.self some c.in_ok-add_money-4.ensures last)
    c.add_money-5.ensures
