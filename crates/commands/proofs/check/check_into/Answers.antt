use Rattle.std.proofs.Common.{refl, arith}
use Rattle.std.proofs.lemmas.Grind.{common_steps}
use Rattle.orders.specs.declared.stop.Stop.TheVariants.{Value}
use Rattle.orders.specs.Stop.{status_of}
use Rattle.evaluation.specs.declared.stop.ValueStop.TheVariants.{NoMemory}
use Rattle.value_command.proofs.Ends.{placed_refused}
use Rattle.commands.proofs.Ends.{resource_refused}
use Rattle.commands.proofs.check.check_into.Goals as goal

pub returns-in-Err-clause-refused : goal.returns-in-Err-clause-refused
returns-in-Err-clause-refused g c = λ not_done. resource_refused _ tt _ c.report_unwritable.ensures

pub returns-clause-refused : goal.returns-clause-refused
returns-clause-refused g c = placed_refused status_of _ (Value NoMemory) refl tt _ _ c.do_findings_check-outcome.ensures.reason c.commit_output-status.ensures.status

pub returns-in-Err-clause-kept : goal.returns-in-Err-clause-kept
returns-in-Err-clause-kept c = grind (arith, common_steps)

pub returns-clause-done : goal.returns-clause-done
returns-clause-done c = grind (arith, common_steps)

pub returns-clause-kept : goal.returns-clause-kept
returns-clause-kept c = grind (arith, common_steps)

pub returns-in-Err-clause-done : goal.returns-in-Err-clause-done
returns-in-Err-clause-done c = grind (arith, common_steps)
