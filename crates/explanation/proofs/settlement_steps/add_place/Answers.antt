use Rattle.std.proofs.lemmas.Result.{on_ok_weaker}
use Rattle.explanation.proofs.Appending.{two}
use Rattle.explanation.proofs.settlement_steps.add_place.Goals as goal

pub returns : goal.returns
returns c =
    on_ok_weaker c.add_number-2.result (λ last. two c.args.facts.now c.add_number.new.self c.add_number-2.new.self _ _ c.in_ok-add_number.ensures last) c.add_number-2.ensures
