use Rattle.std.proofs.Common.{refl, arith}
use Rattle.std.proofs.lemmas.Grind.{common_steps}
use Rattle.evaluation.specs.declared.stop.ValueStop.TheVariants.{NoMemory}
use Rattle.evaluation.specs.Stop.{status_of}
use Rattle.value_command.proofs.Ends.{placed_refused, resource_refused}
use Rattle.plan_commands.proofs.pages.page_into.Goals as goal

pub returns-in-Err-clause-refused : goal.returns-in-Err-clause-refused
returns-in-Err-clause-refused g c = λ not_done. resource_refused status_of _ NoMemory refl tt _ c.report_unwritable.ensures

pub returns-clause-refused : goal.returns-clause-refused
returns-clause-refused g c = placed_refused status_of _ NoMemory refl tt _ _ c.write_page-answer.ensures.refused c.commit_output-status.ensures.status

pub returns-in-Err-clause-done : goal.returns-in-Err-clause-done
returns-in-Err-clause-done c = grind (arith, common_steps)

pub returns-clause-done : goal.returns-clause-done
returns-clause-done c = grind (arith, common_steps)
