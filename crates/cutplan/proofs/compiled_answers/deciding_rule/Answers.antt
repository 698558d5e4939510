use Rattle.std.proofs.lemmas.Grind.{common_steps}
use Rattle.std.proofs.Common.{rules, arith}
use Rattle.cutplan.proofs.Ranking.{first_decides}
use Rattle.cutplan.proofs.compiled_answers.deciding_rule.Goals as goal

pub returns-in-F : goal.returns-in-F
returns-in-F c = search rules

pub returns-in-P : goal.returns-in-P
returns-in-P c =
    first_decides c.rules_are_ranked_once.ensures c.args.table.now c.args.mask.now c.args.rules.now c.args.order.now c.first_in.result c.requires.few (search rules) c.requires.order c.requires.rules c.first_in.ensures

pub returns-in-len1 : goal.returns-in-len1
returns-in-len1 c = grind (arith, common_steps)

pub returns-then-rules_agree : goal.returns-then-rules_agree
returns-then-rules_agree c = grind (arith, common_steps)
