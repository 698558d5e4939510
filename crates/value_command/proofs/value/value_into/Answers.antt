use Rattle.std.proofs.Common.{refl}
use Rattle.evaluation.specs.declared.stop.ValueStop.TheVariants.{NoMemory}
use Rattle.evaluation.specs.Stop.{status_of}
use Rattle.value_command.proofs.Ends.{placed_refused, resource_refused}
use Rattle.value_command.proofs.value.value_into.Goals as goal

pub returns-in-Err-clause-refused : goal.returns-in-Err-clause-refused
returns-in-Err-clause-refused g c = λ not_done. resource_refused status_of _ NoMemory refl tt _ c.report_unwritable.ensures

pub returns-clause-refused : goal.returns-clause-refused
returns-clause-refused g c = placed_refused status_of _ NoMemory refl tt _ _ c.do_value-outcome.ensures.reason c.commit_output-status.ensures.status
