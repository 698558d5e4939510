use Rattle.std.proofs.Common.{refl, rules, arith}
use Rattle.std.proofs.lemmas.Grind.{common_steps}
use Rattle.run_command.proofs.Statuses.{settled_refused}
use Rattle.run_command.proofs.run.settle.Goals as goal

pub returns-clause-refused : goal.returns-clause-refused
returns-clause-refused g c =
    settled_refused c.args.matches.now _ c.args.texts.now _ c.cutoff_of.result c.in-Some.workers c.run_anywhere.result c.run_anywhere.ensures.refused c.about-about.ensures
    (search rules) (search rules) (search rules) refl c.cutoff_of.ensures c.in-Some.ensures

pub returns-in_default-clause-done : goal.returns-in_default-clause-done
returns-in_default-clause-done c = grind (arith, common_steps)

pub returns-in_default-clause-refused : goal.returns-in_default-clause-refused
returns-in_default-clause-refused c = grind (arith, common_steps)

pub returns-clause-done : goal.returns-clause-done
returns-clause-done c = grind (arith, common_steps)

pub returns-in_default-slices_of-clause-done : goal.returns-in_default-slices_of-clause-done
returns-in_default-slices_of-clause-done c = grind (arith, common_steps)

pub returns-in_default-slices_of-clause-refused : goal.returns-in_default-slices_of-clause-refused
returns-in_default-slices_of-clause-refused c = grind (arith, common_steps)
