use Rattle.std.proofs.Common.{subst, arith}
use Rattle.std.proofs.lemmas.Grind.{common_steps}
use Rattle.std.proofs.lemmas.List.{take_all}
use Rattle.plan_commands.specs.ZoneSets.{HaveSameZones}
use Rattle.plan_commands.proofs.Unions.{sets_more}
use Rattle.plan_commands.proofs.zone_sets.join_once.Goals as goal

pub loop-set-preserved : goal.loop-set-preserved
loop-set-preserved c =
    sets_more c.args.sets.now c.loop-set.joined.items _ c.loop-set.set-index c.set-item.result c.set-item.result c.loop-set-test.true c.set-item.is c.loop-set.invariant c.in_ok-add_set.ensures

pub returns : goal.returns
returns c = subst (λ sets. HaveSameZones sets c.loop-set.joined.items) (take_all c.loop-set.set-index c.args.sets.now c.loop-set-test.false) c.loop-set.invariant

pub loop-set-init : goal.loop-set-init
loop-set-init c = grind (arith, common_steps)
