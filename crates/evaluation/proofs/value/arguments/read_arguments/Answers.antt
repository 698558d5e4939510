use Rattle.std.proofs.Common.{arith}
use Rattle.std.proofs.lemmas.Grind.{common_steps}
use Rattle.evaluation.proofs.Givens.{Gives-none, Gives-next, argument_taken, argument_texts-at}
use Rattle.evaluation.proofs.Refusals.{refuses_argument}
use Rattle.evaluation.proofs.value.arguments.read_arguments.Goals as goal

pub loop-index-init : goal.loop-index-init
loop-index-init c = rw c.in_ok-inputs.ensures (Gives-none c.args.plan.now.names)

pub returns-in-Err-clause-refused : goal.returns-in-Err-clause-refused
returns-in-Err-clause-refused c =
    let refused = rw c.names.ensures.names at c.in-Err.ensures.refused in
    refuses_argument _ _ _ c.loop-index.index _ c.in-Err.fault _ c.loop-index.invariant
    (argument_texts-at c.args.arguments.now c.loop-index.index _ c.loop-index-test.true) refused c.from_argument.ensures

pub set-requires : goal.set-requires
set-requires c =
    let a = c.in-Ok.assignment in
    let assigned = rw c.names.ensures.names at c.in-Ok.ensures.assigned in
    argument_taken _ _ _ _ (record { place = a.place; value = a.value }) c.loop-index.invariant assigned

pub loop-index-preserved : goal.loop-index-preserved
loop-index-preserved c =
    let a = c.in-Ok.assignment in
    let assigned = rw c.names.ensures.names at c.in-Ok.ensures.assigned in
    let given = Gives-next _ _ c.loop-index.index _ c.loop-index.inputs (record { place = a.place; value = a.value }) c.loop-index.invariant c.loop-index-test.true assigned c.in-Ok.ensures.fresh in
    rw c.set.ensures given

pub returns-clause-given : goal.returns-clause-given
returns-clause-given c = grind (arith, common_steps)

pub overflow_add-index : goal.overflow_add-index
overflow_add-index c = grind (arith, common_steps)
