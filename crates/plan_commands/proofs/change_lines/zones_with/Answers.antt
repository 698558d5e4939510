use Rattle.std.proofs.Common.{subst, arith}
use Rattle.std.proofs.lemmas.Grind.{common_steps}
use Rattle.std.proofs.lemmas.List.{take_all}
use Rattle.plan_commands.specs.ChangeLines.{HaveZonesWith}
use Rattle.plan_commands.proofs.Parts.{zones_more}
use Rattle.plan_commands.proofs.change_lines.zones_with.Goals as goal

pub loop-own-preserved : goal.loop-own-preserved
loop-own-preserved c =
    zones_more c.args.of_change.now c.args.boxes.now c.args.part c.loop-own.own-index c.own-item.result c.own-item.result c.has_part-is_with.result c.loop-own.sets.items _ c.loop-own-test.true
    c.own-item.is c.has_part-is_with.ensures c.loop-own.invariant c.in_ok-add_box.ensures

pub returns : goal.returns
returns c =
    subst (λ boxes. HaveZonesWith c.args.of_change.now boxes c.args.part c.loop-own.sets.items) (take_all c.loop-own.own-index c.args.boxes.now c.loop-own-test.false) c.loop-own.invariant

pub loop-own-init : goal.loop-own-init
loop-own-init c = grind (arith, common_steps)
