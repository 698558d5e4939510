use Rattle.std.proofs.Common.{arith}
use Rattle.std.proofs.lemmas.Grind.{common_steps}
use Rattle.crew.proofs.threads.fn.in_threads.fn.scope.job.Goals as goal

pub run_thread-requires-clause-terms : goal.run_thread-requires-clause-terms
run_thread-requires-clause-terms c = grind (arith, common_steps)

pub run_thread-requires-clause-plan : goal.run_thread-requires-clause-plan
run_thread-requires-clause-plan c = grind (arith, common_steps)
