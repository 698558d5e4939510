use Rattle.std.proofs.Common.{subst, arith}
use Rattle.std.proofs.lemmas.Grind.{common_steps}
use Rattle.plan_commands.specs.declared.compare_report.CompareStop.TheVariants.{Text}
use Rattle.plan_commands.specs.Comparing.{StopsTexts}
use Rattle.plan_commands.proofs.Comparisons.{text_uncompared}
use Rattle.plan_commands.proofs.compare_refusal.refuse_compare.Goals as goal

pub returns-in-Text-clause-refused : goal.returns-in-Text-clause-refused
returns-in-Text-clause-refused g c =
    let words = c.args.texts.now.about.words.now in
    let old = c.args.texts.now.old.now in
    let new = c.args.texts.now.about.plan.now in
    let stops : StopsTexts words old new (Text c.in-Text.side c.in-Text.stop) = subst (StopsTexts words old new) c.in-Text.is c.requires in
    λ is_refused. text_uncompared words old new c.in-Text.side c.in-Text.stop c.refuse_plan.result stops c.refuse_plan.ensures.status

pub returns-in-Plans-clause-not_done : goal.returns-in-Plans-clause-not_done
returns-in-Plans-clause-not_done c = grind (arith, common_steps)

pub returns-in-Text-clause-not_done : goal.returns-in-Text-clause-not_done
returns-in-Text-clause-not_done c = grind (arith, common_steps)

pub returns-in-Word-clause-refused : goal.returns-in-Word-clause-refused
returns-in-Word-clause-refused c = grind (arith, common_steps)
