use Rattle.std.proofs.Common.{arith}
use Rattle.std.proofs.lemmas.Grind.{common_steps}
use Rattle.journal.specs.Leading.{leads_further}
use Rattle.test_gate.proofs.tests.alone.go.Goals as goal

pub returns-clause-leads : goal.returns-clause-leads
returns-clause-leads g c =
    leads_further c.args.gate.now c.make-job.new.gate c.make-job-2.new.gate c.make-job.ensures.leads c.make-job-2.ensures.leads

pub make-job-requires-2-clause-terms : goal.make-job-requires-2-clause-terms
make-job-requires-2-clause-terms g c = grind (arith, common_steps)
