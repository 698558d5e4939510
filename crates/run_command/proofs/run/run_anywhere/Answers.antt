use Rattle.std.proofs.Common.{inl, arith}
use Rattle.std.proofs.lemmas.Grind.{common_steps}
use Rattle.claim_run.specs.RunText.{run_texts}
use Rattle.run_command.proofs.Ends.{refused_by_system}
use Rattle.run_command.proofs.run.run_anywhere.Goals as goal

pub returns-clause-refused : goal.returns-clause-refused
returns-clause-refused g c = λ not_done. inl (refused_by_system (run_texts c.args.input) c.args.input.workers c.in-Err.status c.in-Err.ensures)

pub returns-in-Ok-None-clause-done : goal.returns-in-Ok-None-clause-done
returns-in-Ok-None-clause-done c = grind (arith, common_steps)

pub returns-clause-done : goal.returns-clause-done
returns-clause-done c = grind (arith, common_steps)

pub returns-in-Ok-Some-clause-done : goal.returns-in-Ok-Some-clause-done
returns-in-Ok-Some-clause-done c = grind (arith, common_steps)

pub returns-in-Ok-None-clause-refused : goal.returns-in-Ok-None-clause-refused
returns-in-Ok-None-clause-refused c = grind (arith, common_steps)

pub returns-in-Ok-Some-clause-refused : goal.returns-in-Ok-Some-clause-refused
returns-in-Ok-Some-clause-refused c = grind (arith, common_steps)
