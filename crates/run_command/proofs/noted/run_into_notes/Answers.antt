use Rattle.std.proofs.Common.{arith}
use Rattle.std.proofs.lemmas.Grind.{common_steps}
use Rattle.claim_run.specs.RunText.{run_texts}
use Rattle.run_command.proofs.Ends.{closing_refused, refused_by_system}
use Rattle.run_command.proofs.noted.run_into_notes.Goals as goal

pub returns-in-Err-clause-refused : goal.returns-in-Err-clause-refused
returns-in-Err-clause-refused g c = λ not_done. refused_by_system (run_texts c.args.input) c.args.input.workers c.report_unwritable.result c.report_unwritable.ensures

pub returns-in-Done-clause-refused : goal.returns-in-Done-clause-refused
returns-in-Done-clause-refused g c = λ not_done. closing_refused (run_texts c.args.input) c.args.input.workers c.put_further.result c.put_further.ensures not_done

pub returns-in-Err-clause-done : goal.returns-in-Err-clause-done
returns-in-Err-clause-done c = grind (arith, common_steps)

pub returns-in_default : goal.returns-in_default
returns-in_default c = grind (arith, common_steps)

pub returns-in-Done-clause-done : goal.returns-in-Done-clause-done
returns-in-Done-clause-done c = grind (arith, common_steps)
