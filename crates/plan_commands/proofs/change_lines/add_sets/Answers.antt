use Rattle.std.proofs.Common.{subst, arith}
use Rattle.std.proofs.lemmas.Grind.{common_steps}
use Rattle.std.proofs.lemmas.List.{take_all}
use Rattle.plan_commands.specs.ZoneSets.{AreIn}
use Rattle.plan_commands.specs.ChangeLines.{HavePart}
use Rattle.plan_commands.proofs.Parts.{sets_added}
use Rattle.plan_commands.proofs.change_lines.add_sets.Goals as goal

pub loop-set-preserved : goal.loop-set-preserved
loop-set-preserved c =
    sets_added c.args.lines.now.items c.loop-set.lines.items _ c.args.part c.loop-set.set-index c.args.sets.now c.set-item.result c.set-item.result c.loop-set-test.true c.set-item.is
    c.loop-set.invariant c.in_ok-add_line.ensures

pub returns : goal.returns
returns c =
    subst (λ sets. HavePart c.args.lines.now.items c.args.part (AreIn sets) c.loop-set.lines.items) (take_all c.loop-set.set-index c.args.sets.now c.loop-set-test.false) c.loop-set.invariant

pub loop-set-init : goal.loop-set-init
loop-set-init c = grind (arith, common_steps)
