use Rattle.std.proofs.lemmas.Grind.{common_steps}
use Rattle.std.proofs.Common.{filter, ap, ◌∙◌, arith}
use Rattle.std.proofs.lemmas.List.{take_all}
use Rattle.cutplan.specs.CompiledAnswers.{is_in_mask}
use Rattle.cutplan.proofs.Ranking.{ranked_mask}
use Rattle.cutplan.proofs.compiled_answers.ranked_in.Goals as goal

pub loop-rule-preserved : goal.loop-rule-preserved
loop-rule-preserved c = grind (arith, common_steps)

pub returns : goal.returns
returns c =
    let mask = c.args.mask.now in
    let order = c.args.order.now in
    ranked_mask c.rules_are_ranked_once.ensures c.args.table.now mask c.loop-rule.ranked c.requires.few
    (c.loop-rule.invariant ∙ ap (filter (is_in_mask mask)) (take_all c.loop-rule.rule-index order c.loop-rule-test.false ∙ c.requires.ranked))
