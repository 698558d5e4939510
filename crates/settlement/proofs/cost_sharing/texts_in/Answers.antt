use Rattle.std.proofs.Common.{◌∙◌}
use Rattle.std.proofs.lemmas.Result.{IfOk-weaker}
use Rattle.settlement.proofs.cost_sharing.texts_in.Goals as goal

pub returns : goal.returns
returns c = IfOk-weaker c.new.result _ _ (λ remarks is. is ∙ c.in_ok-copies_of.ensures) c.new.ensures
