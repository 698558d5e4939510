use Rattle.std.proofs.Common.{arith}
use Rattle.std.proofs.lemmas.Grind.{common_steps}
use Rattle.cutplan.proofs.ClassNumbers.{one_name}
use Rattle.cutplan.proofs.input_class.compiled_names.Goals as goal

pub loop-place-preserved : goal.loop-place-preserved
loop-place-preserved c =
    one_name c.args.plan.now c.as_slice-place-items.result.now c.loop-place.kept _ c.loop-place.place-index c.in_ok-compiled_name.field-0 c.loop-place-test.true c.loop-place.invariant
    c.in_ok-compiled_name.ensures c.in_ok-push.ensures.ok

pub returns : goal.returns
returns c = grind (arith, common_steps)
