use Rattle.std.proofs.lemmas.Result.{on_ok_weaker}
use Rattle.explanation.proofs.Appending.{two}
use Rattle.explanation.proofs.refusal.add_bytes.Goals as goal

pub returns : goal.returns
returns c =
    on_ok_weaker c.add.result
    (λ last. two c.args.facts.now c.add_number.new.self c.add.new.self _ _ c.in_ok-add_number.ensures
    (rw (c.as_slice.ensures.value, c.in_ok-first.ensures, c.first_bytes.ensures) at last)) c.add.ensures
