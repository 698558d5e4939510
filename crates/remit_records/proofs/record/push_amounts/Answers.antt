use Rattle.std.proofs.Common.{◌≡◌, arith, map, subst, take}
use Rattle.std.proofs.lemmas.Grind.{common_steps}
use Rattle.fixpoint.specs.Money.{money_text}
use Rattle.remit_records.specs.Amounts.{amount_of}
use Rattle.remit_records.specs.Fields.{Pushes}
use Rattle.remit_records.proofs.record.push_amounts.Goals as goal

pub returns : goal.returns
returns c =
    let all : take c.loop-amount.amount-index c.args.amounts.now ≡ c.args.amounts.now = grind (arith, common_steps) in
    subst (λ amounts. Pushes c.args.line.now c.loop-amount.line (map (λ amount. money_text (amount_of amount c.args.decision.now)) amounts)) all c.loop-amount.invariant

pub loop-amount-preserved : goal.loop-amount-preserved
loop-amount-preserved c = grind (arith, common_steps)
