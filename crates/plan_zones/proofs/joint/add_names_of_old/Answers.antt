use Rattle.std.proofs.Common.{◌++◌, ap, map, ◌∙◌, arith}
use Rattle.std.proofs.lemmas.Grind.{common_steps}
use Rattle.std.proofs.lemmas.List.{take_all}
use Rattle.plan_zones.specs.Joint.{name_of_old}
use Rattle.plan_zones.proofs.joint.add_names_of_old.Goals as goal

pub returns : goal.returns
returns c =
    let items = c.as_slice-place-items.result.now in
    c.loop-place.invariant
    ∙ ap (λ ps. c.args.names.now ++ map name_of_old ps) (take_all c.loop-place.place-index items c.loop-place-test.false ∙ c.as_slice-place-items.ensures ∙ c.in_ok-alone.ensures)

pub loop-place-preserved : goal.loop-place-preserved
loop-place-preserved c = grind (arith, common_steps)
