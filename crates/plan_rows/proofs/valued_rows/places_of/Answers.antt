use Rattle.std.proofs.Common.{arith}
use Rattle.std.proofs.lemmas.Grind.{common_steps}
use Rattle.plan_rows.proofs.RowRecords.{places_more}
use Rattle.plan_rows.proofs.valued_rows.places_of.Goals as goal

pub loop-name-preserved : goal.loop-name-preserved
loop-name-preserved c =
    places_more c.args.plan.now.tables c.args.names.now c.loop-name.name-index _ _ _ _ c.loop-name-test.true c.in_ok-push.ensures.items c.loop-name.invariant c.output_place.ensures

pub returns : goal.returns
returns c = grind (arith, common_steps)
