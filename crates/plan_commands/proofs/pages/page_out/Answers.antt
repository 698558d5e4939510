use Rattle.std.proofs.Common.{arith}
use Rattle.std.proofs.lemmas.Grind.{common_steps}
use Rattle.evaluation.specs.Stop.{status_of}
use Rattle.value_command.proofs.Ends.{ends_refused}
use Rattle.plan_commands.proofs.pages.page_out.Goals as goal

pub returns-clause-refused : goal.returns-clause-refused
returns-clause-refused g c = ends_refused status_of _ _ _ c.write_page-answer.ensures.refused c.exit_status_of-status.ensures.done c.exit_status_of-status.ensures.refused

pub returns-clause-done : goal.returns-clause-done
returns-clause-done c = grind (arith, common_steps)
