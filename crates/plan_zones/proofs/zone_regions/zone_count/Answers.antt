use Rattle.std.proofs.Common.{◌-◌, ◌^◌, ◌∙◌}
use Rattle.cutplan.proofs.Counting.{count_more, whole_count}
use Rattle.plan_zones.proofs.zone_regions.zone_count.Goals as goal

pub loop-choices-preserved : goal.loop-choices-preserved
loop-choices-preserved c =
    c.saturating_mul-count.ensures ∙ count_more c.args.regions.now c.loop-choices.choices-index c.choices-item.result c.loop-choices.count c.len.result (2 ^ 64 - 1) c.loop-choices-test.true c.choices-item.is c.len.ensures c.loop-choices.invariant

pub returns : goal.returns
returns c = whole_count c.args.regions.now c.loop-choices.choices-index c.loop-choices.count (2 ^ 64 - 1) c.loop-choices-test.false c.loop-choices.invariant
