use Rattle.std.proofs.lemmas.Result.{on_ok_weaker}
use Rattle.explanation.proofs.Appending.{three}
use Rattle.explanation.proofs.refusal.add_column.Goals as goal

pub returns : goal.returns
returns c =
    on_ok_weaker c.add_field.result
    (λ last. three c.args.facts.now c.add_number.new.self c.add.new.self c.add_field.new.facts _ _ _ c.in_ok-add_number.ensures (rw c.field_in.ensures at c.in_ok-add.ensures)
    (rw c.field_in-2.ensures at last)) c.add_field.ensures
