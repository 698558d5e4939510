use Rattle.std.proofs.Common.{◌++◌, ap, map, ◌∙◌, arith}
use Rattle.std.proofs.lemmas.Grind.{common_steps}
use Rattle.std.proofs.lemmas.List.{take_all}
use Rattle.plan_zones.specs.Boxes.{with_side}
use Rattle.plan_zones.proofs.zone_box.push_group.Goals as goal

pub returns : goal.returns
returns c =
    let items = c.as_slice-inner-items.result.now in
    c.loop-inner.invariant ∙ ap (λ bs. c.args.found.now ++ map (with_side c.args.group.now.side) bs) (take_all c.loop-inner.inner-index items c.loop-inner-test.false ∙ c.as_slice-inner-items.ensures)

pub loop-inner-preserved : goal.loop-inner-preserved
loop-inner-preserved c = grind (arith, common_steps)
