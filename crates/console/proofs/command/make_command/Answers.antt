use Rattle.std.proofs.Common.{◌∙◌}
use Rattle.std.proofs.lemmas.Result.{IfOk-weaker}
use Rattle.console.proofs.command.make_command.Goals as goal

pub returns-clause-name : goal.returns-clause-name
returns-clause-name c = IfOk-weaker c.filled_command.result _ _ (λ m same. same.0 ∙ c.bare_command.ensures.name) c.filled_command.ensures

pub returns-clause-alone : goal.returns-clause-alone
returns-clause-alone c = IfOk-weaker c.filled_command.result _ _ (λ m same. same.2 ∙ c.bare_command.ensures.alone) c.filled_command.ensures
