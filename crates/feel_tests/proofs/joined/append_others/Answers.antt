use Rattle.std.proofs.Common.{◌++◌, flat_map, ap, ◌∙◌, arith}
use Rattle.std.proofs.lemmas.Grind.{common_steps}
use Rattle.std.proofs.lemmas.List.{take_all}
use Rattle.feel_tests.proofs.joined.append_others.Goals as goal

pub loop-item-preserved : goal.loop-item-preserved
loop-item-preserved g c = grind (arith, common_steps)

pub returns : goal.returns
returns g c =
    c.loop-item.invariant ∙ ap (λ items. c.args.text.now.items ++ flat_map (λ item. c.args.mark.now ++ g.S.Spelling.text_of item) items) (take_all c.loop-item.item-index c.args.items.now c.loop-item-test.false)
