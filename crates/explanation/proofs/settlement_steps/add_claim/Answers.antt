use Rattle.std.proofs.lemmas.Result.{on_ok_weaker}
use Rattle.explanation.proofs.Claims.{claim_added}
use Rattle.explanation.proofs.settlement_steps.add_claim.Goals as goal

pub returns : goal.returns
returns c =
    on_ok_weaker c.add_money.result
    (λ last. claim_added c.args.claim.now c.args.facts.now c.add.new.self c.add-2.new.self c.add-3.new.self c.add_money.new.self (rw c.as_bytes.ensures.value at c.in_ok-add.ensures)
    (rw c.as_bytes-2.ensures.value at c.in_ok-add-2.ensures) (rw (c.as_slice.ensures.value, c.in_ok-service.ensures) at c.in_ok-add-3.ensures) last)
    c.add_money.ensures
