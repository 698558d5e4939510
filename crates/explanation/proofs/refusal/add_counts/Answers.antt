use Rattle.std.proofs.lemmas.Result.{on_ok_weaker}
use Rattle.explanation.proofs.Appending.{two}
use Rattle.explanation.proofs.refusal.add_counts.Goals as goal

pub returns : goal.returns
returns c =
    on_ok_weaker c.add_number-2.result
    (λ last. two c.args.facts.now c.add_number.new.self c.add_number-2.new.self _ _ (rw c.len.ensures at c.in_ok-add_number.ensures) (rw c.len-wanted.ensures at last)) c.add_number-2.ensures
