use Rattle.std.proofs.Common.{refl, rules, arith}
use Rattle.std.proofs.lemmas.Grind.{common_steps}
use Rattle.commands.proofs.Statuses.{compared_done, compared_refused}
use Rattle.commands.proofs.compared_claims.compare_texts.Goals as goal

pub returns-clause-done : goal.returns-clause-done
returns-clause-done g c =
    compared_done c.args.matches.now c.args.old.now c.args.texts.now _ c.compare_given.result c.compare_given.ensures.done refl
    (search rules) (search rules) (search rules) c.cutoff_of.ensures c.order_of-order.ensures

pub returns-clause-refused : goal.returns-clause-refused
returns-clause-refused g c =
    compared_refused c.args.matches.now _ c.args.old.now c.args.texts.now _ _ _ c.compare_given.result c.compare_given.ensures.refused c.about-about.ensures
    c.cutoff_of.ensures refl (search rules) (search rules) refl (search rules) (search rules) (search rules) refl

pub returns-in_default-clause-done : goal.returns-in_default-clause-done
returns-in_default-clause-done c = grind (arith, common_steps)

pub returns-then-eq-clause-done : goal.returns-then-eq-clause-done
returns-then-eq-clause-done c = grind (arith, common_steps)

pub returns-then-eq-clause-refused : goal.returns-then-eq-clause-refused
returns-then-eq-clause-refused c = grind (arith, common_steps)

pub returns-in_default-clause-refused : goal.returns-in_default-clause-refused
returns-in_default-clause-refused c = grind (arith, common_steps)

pub compare_given-requires : goal.compare_given-requires
compare_given-requires c = grind (arith, common_steps)
