use Rattle.std.proofs.Common.{refl, arith}
use Rattle.std.proofs.lemmas.Grind.{common_steps}
use Rattle.evaluation.specs.declared.stop.ValueStop.TheVariants.{NoMemory}
use Rattle.evaluation.specs.Stop.{status_of}
use Rattle.value_command.proofs.Ends.{resource_refused}
use Rattle.plan_commands.proofs.pages.put_page.Goals as goal

pub returns-in-Err-clause-done : goal.returns-in-Err-clause-done
returns-in-Err-clause-done g c = grind (arith, common_steps)

pub returns-in-Err-clause-refused : goal.returns-in-Err-clause-refused
returns-in-Err-clause-refused g c = λ not_done. resource_refused status_of _ NoMemory refl tt _ c.in-Err.ensures

pub returns-in-Ok-None-clause-refused : goal.returns-in-Ok-None-clause-refused
returns-in-Ok-None-clause-refused c = grind (arith, common_steps)

pub returns-in-Ok-None-clause-done : goal.returns-in-Ok-None-clause-done
returns-in-Ok-None-clause-done c = grind (arith, common_steps)

pub returns-in-Ok-Some-clause-done : goal.returns-in-Ok-Some-clause-done
returns-in-Ok-Some-clause-done c = grind (arith, common_steps)

pub returns-in-Ok-Some-clause-refused : goal.returns-in-Ok-Some-clause-refused
returns-in-Ok-Some-clause-refused c = grind (arith, common_steps)
