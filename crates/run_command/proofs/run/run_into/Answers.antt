use Rattle.std.proofs.Common.{refl, rules, arith}
use Rattle.std.proofs.lemmas.Grind.{common_steps}
use Rattle.orders.specs.declared.stop.Stop.TheVariants.{Value}
use Rattle.orders.specs.Stop.{status_of}
use Rattle.evaluation.specs.declared.stop.ValueStop.TheVariants.{NoMemory}
use Rattle.value_command.proofs.Ends.{placed_refused, placed_through}
use Rattle.run_command.proofs.Ends.{resource_refused}
use Rattle.claim_run.specs.RunText.{run_texts}
use Rattle.run_command.proofs.Ordered.{written_in_order}
use Rattle.run_command.proofs.run.run_into.Goals as goal

pub returns-in-Err-clause-refused : goal.returns-in-Err-clause-refused
returns-in-Err-clause-refused g c = λ not_done. resource_refused _ tt _ c.report_unwritable.ensures

pub returns-clause-refused : goal.returns-clause-refused
returns-clause-refused g c = placed_refused status_of _ (Value NoMemory) refl tt _ _ c.do_counted_run-outcome.ensures.reason c.commit_output-status.ensures.status

pub returns-clause-done : goal.returns-clause-done
returns-clause-done g c =
    let written = written_in_order c.args.order (run_texts c.args.input) _ _ c.do_counted_run-outcome.result c.do_counted_run-outcome.ensures.written c.do_counted_run-outcome.ensures.ordered in
    placed_through g.P.Text.Write.contents _ _ _ _ _ _ _ _ _ _ c.begin.ensures.kept written
    c.commit_output-status.ensures.refused c.commit_output-status.ensures.put c.new-out.ensures.writer c.into_inner.ensures (search rules)

pub returns-in-Err-clause-kept : goal.returns-in-Err-clause-kept
returns-in-Err-clause-kept c = grind (arith, common_steps)

pub returns-in-Err-clause-done : goal.returns-in-Err-clause-done
returns-in-Err-clause-done c = grind (arith, common_steps)
