use Rattle.std.proofs.Common.{◌≤◌, length, ap, arith}
use Rattle.std.proofs.lemmas.Grind.{common_steps}
use Rattle.std.proofs.lemmas.List.{length-map}
use Rattle.claim_gate.specs.Terms.{ForTerms}
use Rattle.journal.specs.Lawful.{Finished}
use Rattle.crew.proofs.Results.{under_any, under_none}
use Rattle.crew.proofs.threads.do_part.Goals as goal

pub run_intake_part-requires-clause-within : goal.run_intake_part-requires-clause-within
run_intake_part-requires-clause-within g c κs within =
    let size = length-map c.files.result.now (λ f. f.now) in
    let files = ap length c.files.ensures.files in
    omega (arith, c.if-number-files.true, size, files)

pub returns-then-number-files-clause-finished : goal.returns-then-number-files-clause-finished
returns-then-number-files-clause-finished g c =
    let size = length-map c.files.result.now (λ f. f.now) in
    let files = ap length c.files.ensures.files in
    under_none (length c.args.shared.now.terms.now.files ≤ c.args.number) (λ p. ForTerms c.args.shared.now.terms.now (λ T. Finished T (g.G.Gate.known p).seen.journal))
    c.run_intake_part.result (λ most. omega (arith, c.if-number-files.true, size, files, most))

pub returns-else-number-files-clause-finished : goal.returns-else-number-files-clause-finished
returns-else-number-files-clause-finished g c =
    under_any (length c.args.shared.now.terms.now.files ≤ c.args.number) (λ p. ForTerms c.args.shared.now.terms.now (λ T. Finished T (g.G.Gate.known p).seen.journal))
    c.run_worker.result c.run_worker.ensures.finished

pub returns-then-number-files-clause-goes_on : goal.returns-then-number-files-clause-goes_on
returns-then-number-files-clause-goes_on c = grind (arith, common_steps)

pub returns-else-number-files-clause-leaves : goal.returns-else-number-files-clause-leaves
returns-else-number-files-clause-leaves c = grind (arith, common_steps)

pub returns-else-number-files-clause-goes_on : goal.returns-else-number-files-clause-goes_on
returns-else-number-files-clause-goes_on c = grind (arith, common_steps)

pub run_intake_part-requires-clause-terms : goal.run_intake_part-requires-clause-terms
run_intake_part-requires-clause-terms c = grind (arith, common_steps)

pub run_worker-requires-clause-terms : goal.run_worker-requires-clause-terms
run_worker-requires-clause-terms c = grind (arith, common_steps)

pub returns-then-number-files-clause-leaves : goal.returns-then-number-files-clause-leaves
returns-then-number-files-clause-leaves c = grind (arith, common_steps)
